-- The walk up from the later window until the earlier window's last is a chain, no chain between the two has fewer
-- handovers, and none with as few stands earlier at any step.
-- Vocabulary: walk, climb, Best (of the chains from the later window to the earlier).
-- Assumes nothing.
use Prim.Native.Nat.{ℕ, zero, suc, ◌≤◌, ◌<◌}
use mathlib.Core.{Bool.Bool, Bool.true, Path.◌≡◌, Path.refl, Path.ap, Path.◌∙◌, Logic.⊎_elim, List.List, List.[], List.◌∷◌}
use native.Mathlib.Omega.{arith}
use lib.ListN.{length, get_or, length-append, get_or-append}
use Rattle.sequences.{specs.Table.table, proofs.Tests.lt_or_ge, proofs.Table.length_table, proofs.Table.get_or-table}
use Rattle.interval_graph.specs.{Order.IntervalOrder, Chain.first_entry, Chain.last_entry, Chain.handovers, Chain.leads}
use Rattle.interval_graph.specs.{Tree.last, Tree.parent, Tree.ancestor, Tree.root, Walk.climb, Walk.walk}
use Rattle.interval_graph.proofs.Last.{last_ge, last_overlap}
use Rattle.interval_graph.proofs.Parent.{parent_le, parent_last, parent_overlaps, tree}
use Rattle.interval_graph.proofs.Ancestor.{ancestor_zero, ancestor_suc, ancestor_below}
use Rattle.interval_graph.proofs.Depth.{fixed_root, root_unique, root_le_ancestor}
use Rattle.interval_graph.proofs.Chains.{first_get_or, last-get_or, last_snoc, last_table, handovers_alone, chain_alone, chain_snoc}
use Rattle.interval_graph.proofs.Chains.{chain_table, chain_not_empty, leads_chain, leads_first, leads_last, leads_intro}
use Rattle.interval_graph.proofs.Climb.{climb_le, climb_before, climb_reaches, ancestor_le_chain, chain_climbs}

-- Of the chains that lead from v to u, l has the fewest handovers, and of those with as few the earliest entry at
-- each step.
pub record Best (n : ℕ) (overlaps : ℕ → ℕ → Bool) (v u : ℕ) (l : List ℕ) : Type 0 where
  pub leading : leads n overlaps v u l ≡ true
  pub fewest : (m : List ℕ) → leads n overlaps v u m ≡ true → handovers l ≤ handovers m
  pub earliest : (m : List ℕ) → leads n overlaps v u m ≡ true → handovers m ≤ handovers l → (i : ℕ) → i ≤ handovers l → get_or l i 0 ≤ get_or m i 0

-- entries of the walk, of any overlap test

module _ (n : ℕ) (overlaps : ℕ → ℕ → Bool) where
  -- The walk has one handover more than there are steps up.
  pub walk_handovers : (u v : ℕ) → handovers (walk n overlaps u v) ≡ suc (climb n overlaps u v)
  unfolding handovers walk
  walk_handovers u v =
      let f : ℕ → ℕ = λ i. ancestor overlaps i v in
      omega (arith, length-append (table f (suc (climb n overlaps u v))) (u ∷ []), length_table f (suc (climb n overlaps u v)))

  -- At step i the walk has the i-th ancestor of v.
  pub walk_entry : (u v i : ℕ) → i ≤ climb n overlaps u v → get_or (walk n overlaps u v) i 0 ≡ ancestor overlaps i v
  unfolding walk
  walk_entry u v i h =
      let f : ℕ → ℕ = λ i. ancestor overlaps i v in let k = suc (climb n overlaps u v) in
      get_or-append (table f k) (u ∷ []) 0 i (omega (arith, length_table f k)) ∙ get_or-table f k i 0 (omega arith)

  -- It begins at v.
  pub walk_first : (u v : ℕ) → first_entry (walk n overlaps u v) ≡ v
  walk_first u v = first_get_or (walk n overlaps u v) ∙ walk_entry u v 0 (omega arith) ∙ ancestor_zero (tree overlaps) v

  -- It ends at u.
  pub walk_last : (u v : ℕ) → last_entry (walk n overlaps u v) ≡ u
  unfolding walk
  walk_last u v = last_snoc (table (λ i. ancestor overlaps i v) (suc (climb n overlaps u v))) u

module _ {n : ℕ} {overlaps : ℕ → ℕ → Bool} (ok : IntervalOrder n overlaps) where
  -- On the way up to a position at most the last of u there is no root, so each ancestor overlaps the next.
  walk_step : (u v i : ℕ) → climb n overlaps u v ≤ v → i < climb n overlaps u v → overlaps (ancestor overlaps i v) (ancestor overlaps (suc i) v) ≡ true
  walk_step u v i r h =
      let x = ancestor overlaps i v in let behind : last n overlaps u < x = climb_before n overlaps u v i h in
      ⊎_elim (λ g. ap (overlaps x) (ancestor_suc (tree overlaps) i v) ∙ (ok.symmetric x (parent overlaps x) ∙ parent_overlaps overlaps x g))
      (λ g. let e : parent overlaps x ≡ x = omega (arith, parent_le overlaps x) in
      let s : x ≡ root overlaps v = root_unique (tree overlaps) v i (fixed_root (tree overlaps) x e) in
      absurd (omega (arith, climb_reaches n overlaps u v r, root_le_ancestor (tree overlaps) v (climb n overlaps u v))))
      (lt_or_ge (parent overlaps x) x)

  -- The position where the way up ends overlaps u.
  walk_end : (u v j : ℕ) → u < v → v < n → climb n overlaps u v ≡ j → j ≤ v → overlaps (ancestor overlaps j v) u ≡ true
  walk_end u v zero h g e r =
      ap (λ z. overlaps z u) (ancestor_zero (tree overlaps) v)
      ∙ (ok.symmetric v u ∙ last_overlap ok u v h (omega (arith, rw e at (climb_reaches n overlaps u v (omega arith)), ancestor_zero (tree overlaps) v)))
  walk_end u v (suc j) h g e r =
      let x = ancestor overlaps j v in let y = ancestor overlaps (suc j) v in
      let up : y ≡ parent overlaps x = ancestor_suc (tree overlaps) j v in
      let reached : y ≤ last n overlaps u = rw e at (climb_reaches n overlaps u v (omega arith)) in
      let behind : last n overlaps u < x = climb_before n overlaps u v j (omega arith) in
      let covers : x ≤ last n overlaps y = rw up (parent_last ok x (ancestor_below (tree overlaps) j v g)) in
      ⊎_elim (λ l. ok.symmetric y u ∙ last_overlap ok u y l reached)
      (λ l. ⊎_elim (λ m. last_overlap ok y u m (omega (arith, last_ge ok u)))
      (λ m. let s : y ≡ u = omega arith in absurd (omega (arith, ap (last n overlaps) s))) (lt_or_ge y u)) (lt_or_ge u y)

  -- The walk leads from v to u.
  pub walk_leads : (u v : ℕ) → u < v → v < n → climb n overlaps u v ≤ v → leads n overlaps v u (walk n overlaps u v) ≡ true
  unfolding walk
  walk_leads u v h g r =
      let f : ℕ → ℕ = λ i. ancestor overlaps i v in let k = climb n overlaps u v in
      leads_intro n overlaps v u (walk n overlaps u v) (chain_snoc n overlaps (table f (suc k)) u
      (chain_table n overlaps f k (λ i b. ancestor_below (tree overlaps) i v g) (λ i b. walk_step u v i r b))
      (ap (λ z. overlaps z u) (last_table f k) ∙ walk_end u v k h g refl r) (omega arith))
      (walk_first n overlaps u v) (walk_last n overlaps u v)

  -- A chain from v to u has more handovers than steps up are needed.
  pub climb_lt_handovers : (u v : ℕ) (m : List ℕ) → u < v → leads n overlaps v u m ≡ true → climb n overlaps u v < handovers m
  unfolding first_entry last_entry handovers
  climb_lt_handovers u v [] h t = absurd (chain_not_empty n overlaps (leads_chain n overlaps v u [] t))
  climb_lt_handovers u v (x ∷ []) h t = absurd (omega (arith, leads_first n overlaps v u (x ∷ []) t, leads_last n overlaps v u (x ∷ []) t))
  climb_lt_handovers u v (x ∷ (y ∷ l)) h t =
      let m = x ∷ (y ∷ l) in let first = leads_first n overlaps v u m t in
      let c = chain_climbs ok l x y v u (leads_chain n overlaps v u m t) (leads_last n overlaps v u m t) (omega (arith, first)) in
      omega (arith, climb_le n overlaps u v (length l) c)

  -- At each step it is at or behind the ancestor.
  pub ancestor_le_entry : (u v : ℕ) (m : List ℕ) → leads n overlaps v u m ≡ true → (i : ℕ) → i ≤ handovers m → ancestor overlaps i v ≤ get_or m i 0
  unfolding first_entry handovers
  ancestor_le_entry u v [] t i b = absurd (chain_not_empty n overlaps (leads_chain n overlaps v u [] t))
  ancestor_le_entry u v (x ∷ l) t i b =
      ancestor_le_chain ok l x v i (leads_chain n overlaps v u (x ∷ l) t) (omega (arith, leads_first n overlaps v u (x ∷ l) t)) (omega arith)

  -- Of the chains from v to u the walk is the best.
  pub walk_best : (u v : ℕ) → u < v → v < n → climb n overlaps u v ≤ v → Best n overlaps v u (walk n overlaps u v)
  walk_best u v h g r =
      record {
        leading = walk_leads u v h g r;
        fewest = λ m t. omega (arith, walk_handovers n overlaps u v, climb_lt_handovers u v m h t);
        earliest = λ m t f i b. ⊎_elim (on-the-way m t i) (at-the-end m t f i b) (lt_or_ge i (suc (climb n overlaps u v)));
      }
    where
      on-the-way : (m : List ℕ) → leads n overlaps v u m ≡ true → (i : ℕ) → i < suc (climb n overlaps u v) → get_or (walk n overlaps u v) i 0 ≤ get_or m i 0
      on-the-way m t i b =
          omega (arith, walk_entry n overlaps u v i (omega arith), ancestor_le_entry u v m t i (omega (arith, climb_lt_handovers u v m h t)))

      at-the-end : (m : List ℕ) → leads n overlaps v u m ≡ true → handovers m ≤ handovers (walk n overlaps u v) → (i : ℕ) →
          i ≤ handovers (walk n overlaps u v) → suc (climb n overlaps u v) ≤ i → get_or (walk n overlaps u v) i 0 ≤ get_or m i 0
      at-the-end m t f i b e =
          let w = walk n overlaps u v in let p : i ≡ handovers w = omega (arith, walk_handovers n overlaps u v) in
          let q : i ≡ handovers m = omega (arith, walk_handovers n overlaps u v, climb_lt_handovers u v m h t) in
          omega (arith, ap (λ k. get_or w k 0) p, ap (λ k. get_or m k 0) q, last-get_or w, last-get_or m, walk_last n overlaps u v, leads_last n overlaps v u m t)

  -- A window alone is the best chain from it to itself.
  pub alone_best : (v : ℕ) → v < n → Best n overlaps v v (v ∷ [])
  unfolding first_entry last_entry
  alone_best v g =
      record {
        leading = leads_intro n overlaps v v (v ∷ []) (chain_alone n overlaps v g) refl refl;
        fewest = λ m t. omega (arith, handovers_alone v);
        earliest = λ m t f i b.
            let e : i ≡ 0 = omega (arith, handovers_alone v) in
            rw e (omega (arith, first_get_or m, leads_first n overlaps v v m t));
      }
