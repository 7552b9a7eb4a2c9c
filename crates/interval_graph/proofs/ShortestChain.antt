-- The chain that is written between two windows is, whenever some chain joins them, a shortest one with the earliest
-- window at each step; it is empty exactly if none joins them, which is so exactly if their components differ.
-- Vocabulary: chain_of, Joined, EarliestShortest, LeastHandovers, component.
-- Assumes nothing.
use Prim.Native.Nat.{ℕ, ◌≤◌, ◌<◌, min, max}
use mathlib.Core.Bool.{Bool, true, false}
use mathlib.Core.{Path.◌≡◌, Path.sym, Path.ap, Path.◌∙◌, Logic.⊎_elim, Logic.◌↔◌, List.List, List.[], List.◌∷◌}
use native.Mathlib.Omega.{arith}
use lib.Dec.{leb, eqb}
use borrow.Author.Tests.{eq-eqb, ne_eqb, le-leb, lt-leb}
use Rattle.sequences.proofs.Tests.{lt_or_ge, equal_or_not}
use Rattle.interval_graph.specs.Order.{IntervalOrder}
use Rattle.interval_graph.specs.Chain.{first_entry, last_entry, handovers, leads, joins, Joined, LeastHandovers, from_later, EarliestShortest}
use Rattle.interval_graph.specs.{Tree.root, Tree.component, Walk.climb, Walk.walk, Walk.chain_of}
use Rattle.interval_graph.proofs.Component.{root_component, component_root}
use Rattle.interval_graph.proofs.Chains.{chain_not_empty, leads_chain, leads_first, leads_last, joins_cases, leads_joins, joins_swap}
use Rattle.interval_graph.proofs.Chains.{joins_not_empty, later_leads, handovers_later, shortest_least, least_handovers_unique}
use Rattle.interval_graph.proofs.Chains.{least_handovers_joined}
use Rattle.interval_graph.proofs.Climb.{climb_le_position, chain_root}
use Rattle.interval_graph.proofs.{Walk.Best, Walk.walk_leads, Walk.walk_best, Walk.alone_best, Parent.tree}

-- the equations a reader expects, of any overlap test

module _ (n : ℕ) (overlaps : ℕ → ℕ → Bool) where
  -- From a window to itself the window alone.
  pub chain_same : (a b : ℕ) → a ≡ b → chain_of n overlaps a b ≡ a ∷ []
  unfolding chain_of
  chain_same a b e = let t : eqb a b ≡ true = eq-eqb a b e in rw t

  -- Between two windows the walk, where it arrives.
  pub chain_walk : (a b : ℕ) → (a ≡ b → ⊥) → climb n overlaps (min a b) (max a b) ≤ max a b → chain_of n overlaps a b ≡ walk n overlaps (min a b) (max a b)
  unfolding chain_of
  chain_walk a b d h =
      let t : eqb a b ≡ false = ne_eqb a b d in
      let s : leb (climb n overlaps (min a b) (max a b)) (max a b) ≡ true = le-leb _ _ h in rw (t, s)

  -- Nothing where the walk does not arrive.
  pub chain_none : (a b : ℕ) → (a ≡ b → ⊥) → max a b < climb n overlaps (min a b) (max a b) → chain_of n overlaps a b ≡ []
  unfolding chain_of
  chain_none a b d h =
      let t : eqb a b ≡ false = ne_eqb a b d in
      let s : leb (climb n overlaps (min a b) (max a b)) (max a b) ≡ false = lt-leb _ _ h in rw (t, s)

  -- In either order of naming it is one chain.
  pub chain_symmetric : (a b : ℕ) → chain_of n overlaps a b ≡ chain_of n overlaps b a
  chain_symmetric a b =
      ⊎_elim (λ e. chain_same a b e ∙ (ap (λ x. x ∷ []) e ∙ sym (chain_same b a (sym e)))) (λ d. different d) (equal_or_not a b)
    where
      different : (a ≡ b → ⊥) → chain_of n overlaps a b ≡ chain_of n overlaps b a
      different d =
          let p : min a b ≡ min b a = omega arith in let q : max a b ≡ max b a = omega arith in
          ⊎_elim (λ h. chain_none a b d h ∙ sym (chain_none b a (λ e. d (sym e)) (rw (← p, ← q) h)))
          (λ h. chain_walk a b d h ∙ (rw (p, q) (sym (chain_walk b a (λ e. d (sym e)) (rw (← p, ← q) h)))))
          (lt_or_ge (max a b) (climb n overlaps (min a b) (max a b)))

-- A chain that begins at the later window is read as it stands.
later_same : (a b : ℕ) (l : List ℕ) → first_entry l ≡ max a b → from_later a b l ≡ l
unfolding from_later
later_same a b l e = let t : eqb (first_entry l) (max a b) ≡ true = eq-eqb (first_entry l) (max a b) e in rw t

-- What leads from the later to the earlier joins the two.
joins_of_later : (n : ℕ) (overlaps : ℕ → ℕ → Bool) (a b : ℕ) (l : List ℕ) → leads n overlaps (max a b) (min a b) l ≡ true → joins n overlaps a b l ≡ true
joins_of_later n overlaps a b l t =
    ⊎_elim (λ h. let p : max a b ≡ b = omega arith in let q : min a b ≡ a = omega arith in
    joins_swap n overlaps b a l (leads_joins n overlaps b a l (rw (p, q) at t)))
    (λ h. let p : max a b ≡ a = omega arith in let q : min a b ≡ b = omega arith in leads_joins n overlaps a b l (rw (p, q) at t)) (lt_or_ge a b)

module _ {n : ℕ} {overlaps : ℕ → ℕ → Bool} (ok : IntervalOrder n overlaps) where
  -- Windows that a chain leads from and to have one root.
  pub leads_root : (a b : ℕ) (l : List ℕ) → leads n overlaps a b l ≡ true → root overlaps a ≡ root overlaps b
  unfolding first_entry
  leads_root a b [] t = absurd (chain_not_empty n overlaps (leads_chain n overlaps a b [] t))
  leads_root a b (x ∷ l) t =
      ap (root overlaps) (sym (leads_first n overlaps a b (x ∷ l) t))
      ∙ (chain_root ok l x (leads_chain n overlaps a b (x ∷ l) t) ∙ ap (root overlaps) (leads_last n overlaps a b (x ∷ l) t))

  -- Windows that some chain joins have one root.
  pub joined_root : (a b : ℕ) → Joined n overlaps a b → root overlaps a ≡ root overlaps b
  joined_root a b j = ⊎_elim (λ t. leads_root a b j.0 t) (λ t. sym (leads_root b a j.0 t)) (joins_cases n overlaps a b j.0 j.1)

  root_ends : (a b : ℕ) → root overlaps a ≡ root overlaps b → root overlaps (min a b) ≡ root overlaps (max a b)
  root_ends a b e =
      ⊎_elim (λ h. let p : max a b ≡ b = omega arith in let q : min a b ≡ a = omega arith in rw (p, q) e)
      (λ h. let p : max a b ≡ a = omega arith in let q : min a b ≡ b = omega arith in rw (p, q) (sym e)) (lt_or_ge a b)

  -- In one component the chain is the best from the later window to the earlier.
  pub chain_best : (a b : ℕ) → a < n → b < n → root overlaps a ≡ root overlaps b → Best n overlaps (max a b) (min a b) (chain_of n overlaps a b)
  chain_best a b g l e =
      ⊎_elim (λ s. let p : max a b ≡ a = omega arith in let q : min a b ≡ a = omega arith in
      rw (chain_same n overlaps a b s, p, q) (alone_best ok a g))
      (λ d. let r : climb n overlaps (min a b) (max a b) ≤ max a b = climb_le_position ok (min a b) (max a b) (root_ends a b e) in
      rw (chain_walk n overlaps a b d r) (walk_best ok (min a b) (max a b) (apart a b d) (omega arith) r)) (equal_or_not a b)
    where
      apart : (a b : ℕ) → (a ≡ b → ⊥) → min a b < max a b
      apart a b d = ⊎_elim (λ h. h) (λ h. absurd (d (omega arith))) (lt_or_ge (min a b) (max a b))

  -- Windows of one root are joined by the chain between them.
  pub root_joined : (a b : ℕ) → a < n → b < n → root overlaps a ≡ root overlaps b → Joined n overlaps a b
  root_joined a b g l e = (chain_of n overlaps a b, joins_of_later n overlaps a b (chain_of n overlaps a b) (chain_best a b g l e).leading)

  -- Some chain joins two windows exactly if they have one root.
  pub joined_iff_root : (a b : ℕ) → a < n → b < n → Joined n overlaps a b ↔ (root overlaps a ≡ root overlaps b)
  joined_iff_root a b g l = (joined_root a b, root_joined a b g l)

  -- Some chain joins two windows exactly if they have one component.
  pub joined_iff_component : (a b : ℕ) → a < n → b < n → Joined n overlaps a b ↔ (component overlaps a ≡ component overlaps b)
  joined_iff_component a b g l =
      (λ j. root_component (tree overlaps) a b (joined_root a b j), λ e. root_joined a b g l (component_root (tree overlaps) a b e))

  -- The chain between two windows that some chain joins is a shortest, with the earliest window at each step.
  pub chain_earliest_shortest : (a b : ℕ) → a < n → b < n → Joined n overlaps a b → EarliestShortest n overlaps a b (chain_of n overlaps a b)
  chain_earliest_shortest a b g l j =
      let c = chain_of n overlaps a b in let best = chain_best a b g l (joined_root a b j) in
      let joining = joins_of_later n overlaps a b c best.leading in let later = later_leads n overlaps ok.symmetric a b in
      record {
        shortest = record {
          joining = joining;
          none_shorter = λ m t. omega (arith, best.fewest (from_later a b m) (later m t), handovers_later a b m);
        };
        earliest = λ m s i h.
            rw (later_same a b c (leads_first n overlaps (max a b) (min a b) c best.leading))
            (best.earliest (from_later a b m) (later m s.joining) (omega (arith, handovers_later a b m, s.none_shorter c joining)) i h);
      }

  -- Its handovers are the least number.
  pub chain_least : (a b : ℕ) → a < n → b < n → Joined n overlaps a b → LeastHandovers n overlaps a b (handovers (chain_of n overlaps a b))
  chain_least a b g l j = shortest_least n overlaps a b (chain_of n overlaps a b) (chain_earliest_shortest a b g l j).shortest

  -- No chain has fewer.
  pub chain_none_shorter : (a b : ℕ) → a < n → b < n → (m : List ℕ) → joins n overlaps a b m ≡ true → handovers (chain_of n overlaps a b) ≤ handovers m
  chain_none_shorter a b g l m t = (chain_earliest_shortest a b g l (m, t)).shortest.none_shorter m t

  -- A least number of handovers is that of the chain.
  pub least_is_chain : (a b k : ℕ) → a < n → b < n → LeastHandovers n overlaps a b k → k ≡ handovers (chain_of n overlaps a b)
  least_is_chain a b k g l p =
      least_handovers_unique n overlaps a b k (handovers (chain_of n overlaps a b)) p (chain_least a b g l (least_handovers_joined n overlaps a b k p))

  -- It begins at the later window.
  pub chain_first : (a b : ℕ) → a < n → b < n → Joined n overlaps a b → first_entry (chain_of n overlaps a b) ≡ max a b
  chain_first a b g l j =
      leads_first n overlaps (max a b) (min a b) (chain_of n overlaps a b) (chain_best a b g l (joined_root a b j)).leading

  -- It ends at the earlier window.
  pub chain_last : (a b : ℕ) → a < n → b < n → Joined n overlaps a b → last_entry (chain_of n overlaps a b) ≡ min a b
  chain_last a b g l j =
      leads_last n overlaps (max a b) (min a b) (chain_of n overlaps a b) (chain_best a b g l (joined_root a b j)).leading

  -- If it is empty, no chain joins the two.
  pub chain_empty_apart : (a b : ℕ) → a < n → b < n → chain_of n overlaps a b ≡ [] → Joined n overlaps a b → ⊥
  chain_empty_apart a b g l e j = joins_not_empty n overlaps a b (rw e at (chain_earliest_shortest a b g l j).shortest.joining)

  -- If no chain joins the two, it is empty.
  pub apart_chain_empty : (a b : ℕ) → a < n → b < n → (Joined n overlaps a b → ⊥) → chain_of n overlaps a b ≡ []
  apart_chain_empty a b g l d =
      let u = min a b in let v = max a b in let differ : a ≡ b → ⊥ = λ e. d (root_joined a b g l (ap (root overlaps) e)) in
      ⊎_elim (λ h. chain_none n overlaps a b differ h)
      (λ h. absurd (⊎_elim (λ s. d (walk n overlaps u v, joins_of_later n overlaps a b (walk n overlaps u v) (walk_leads ok u v s (omega arith) h)))
      (λ s. differ (omega arith)) (lt_or_ge u v))) (lt_or_ge v (climb n overlaps u v))

  -- It is empty exactly if no chain joins the two.
  pub chain_empty_iff_apart : (a b : ℕ) → a < n → b < n → (chain_of n overlaps a b ≡ []) ↔ (Joined n overlaps a b → ⊥)
  chain_empty_iff_apart a b g l = (chain_empty_apart a b g l, apart_chain_empty a b g l)

  -- It is empty exactly if their components differ.
  pub chain_empty_iff_component : (a b : ℕ) → a < n → b < n → (chain_of n overlaps a b ≡ []) ↔ (component overlaps a ≡ component overlaps b → ⊥)
  chain_empty_iff_component a b g l =
      (λ e q. chain_empty_apart a b g l e ((joined_iff_component a b g l).1 q), λ d. apart_chain_empty a b g l (λ j. d ((joined_iff_component a b g l).0 j)))
