-- Sameness: two overlap tests in interval order are equal on all pairs of windows exactly if they give each window the
-- same component, depth, rank and rank of the last; and exactly if they give each the same last.
-- Vocabulary: SameOverlaps, SameNumbers.
-- Assumes nothing.
use Prim.Native.Nat.{ℕ, ◌≤◌, ◌<◌}
use mathlib.Core.Bool.{Bool, true, ◌&&◌}
use mathlib.Core.{Path.◌≡◌, Path.refl, Path.sym, Path.ap, Path.◌∙◌, Logic.⊎_elim, Logic.◌↔◌, List.List, List.[], List.◌∷◌}
use native.Mathlib.Omega.{arith}
use lib.Dec.{ltb}
use Rattle.sequences.proofs.{Tests.iff_equal, Tests.lt_or_ge, Search.least_cong, Search.greatest_cong}
use Rattle.interval_graph.specs.Order.{IntervalOrder}
use Rattle.interval_graph.specs.Chain.{first_entry, last_entry, handovers, leads, LeastHandovers}
use Rattle.interval_graph.specs.Tree.{last, parent, depth, component, rank, last_rank}
use Rattle.interval_graph.specs.Numbers.{numbers_of, outcome}
use Rattle.interval_graph.proofs.Last.{overlap_distinct, last_below, last_overlap, overlap_last}
use Rattle.interval_graph.proofs.Chains.{chain_not_empty, chain_overlap, chain_alone, chain_cons, leads_chain, leads_first}
use Rattle.interval_graph.proofs.Chains.{leads_last, leads_intro, leads_joins, joins_cases}
use Rattle.interval_graph.proofs.Rule.{outcome_apart}
use Rattle.interval_graph.proofs.{Agreement.component_agrees, Agreement.depth_agrees, Agreement.rank_agrees, Parent.tree}

-- The same pairs of windows overlap.
abbrev pub SameOverlaps : ℕ → (ℕ → ℕ → Bool) → (ℕ → ℕ → Bool) → Type 0
SameOverlaps n first second = (u v : ℕ) → u < n → v < n → first u v ≡ second u v

-- Each window has the same numbers.
pub record SameNumbers (n : ℕ) (first second : ℕ → ℕ → Bool) : Type 0 where
  pub components : (v : ℕ) → v < n → component first v ≡ component second v
  pub depths : (v : ℕ) → v < n → depth first v ≡ depth second v
  pub ranks : (v : ℕ) → v < n → rank n first v ≡ rank n second v
  pub lasts : (v : ℕ) → v < n → last_rank n first v ≡ last_rank n second v

-- Last and parent depend on the test between windows only.
module _ {n : ℕ} {first second : ℕ → ℕ → Bool} (same : SameOverlaps n first second) where
  -- The last depends on the test between windows only.
  pub last_same : (u : ℕ) → u < n → last n first u ≡ last n second u
  unfolding last
  last_same u h =
      greatest_cong (λ w. ltb u w && first u w) (λ w. ltb u w && second u w) n u (λ k g. ap (λ (t : Bool). ltb u k && t) (same u k h g))

  -- The parent depends on the test between windows only.
  pub parent_same : (v : ℕ) → v < n → parent first v ≡ parent second v
  unfolding parent
  parent_same v h = least_cong (λ u. first u v) (λ u. second u v) v (λ k g. same k v (omega arith) h)

-- An overlap pattern is its lasts.
module _ {n : ℕ} {first second : ℕ → ℕ → Bool} (ok : IntervalOrder n first) (ok' : IntervalOrder n second) where
  lasts_later : ((k : ℕ) → k < n → last n first k ≡ last n second k) → (u v : ℕ) → u < v → v < n → first u v ≡ second u v
  lasts_later same u v h g =
      let e : last n first u ≡ last n second u = same u (omega arith) in
      iff_equal (first u v) (second u v) (λ t. last_overlap ok' u v h (omega (arith, overlap_last ok u v h g t)))
      (λ t. last_overlap ok u v h (omega (arith, overlap_last ok' u v h g t)))

  -- Equal lasts are the same overlaps.
  pub lasts_overlaps : ((k : ℕ) → k < n → last n first k ≡ last n second k) → SameOverlaps n first second
  lasts_overlaps same u v h g =
      ⊎_elim (λ l. lasts_later same u v l g) (λ l. ⊎_elim (λ m. ok.symmetric u v ∙ (lasts_later same v u m h ∙ ok'.symmetric v u))
      (λ m. let e : u ≡ v = omega arith in rw e (ok.irreflexive v ∙ sym (ok'.irreflexive v))) (lt_or_ge v u)) (lt_or_ge u v)

-- An overlap is a least number 1.
module _ {n : ℕ} {overlaps : ℕ → ℕ → Bool} (ok : IntervalOrder n overlaps) where
  leads_some : (a b : ℕ) (l : List ℕ) → leads n overlaps a b l ≡ true → (a ≡ b → ⊥) → 1 ≤ handovers l
  unfolding first_entry last_entry handovers
  leads_some a b [] t d = absurd (chain_not_empty n overlaps (leads_chain n overlaps a b [] t))
  leads_some a b (x ∷ []) t d = absurd (d (sym (leads_first n overlaps a b (x ∷ []) t) ∙ leads_last n overlaps a b (x ∷ []) t))
  leads_some a b (x ∷ (y ∷ l)) t d = omega arith

  leads_one : (a b : ℕ) (l : List ℕ) → leads n overlaps a b l ≡ true → handovers l ≡ 1 → overlaps a b ≡ true
  unfolding first_entry last_entry handovers
  leads_one a b [] t e = absurd (omega arith)
  leads_one a b (x ∷ []) t e = absurd (omega arith)
  leads_one a b (x ∷ (y ∷ [])) t e =
      let p : x ≡ a = leads_first n overlaps a b (x ∷ (y ∷ [])) t in let q : y ≡ b = leads_last n overlaps a b (x ∷ (y ∷ [])) t in
      rw (← p, ← q) (chain_overlap n overlaps x y [] (leads_chain n overlaps a b (x ∷ (y ∷ [])) t))
  leads_one a b (x ∷ (y ∷ (z ∷ l))) t e = absurd (omega arith)

  -- Two windows overlap exactly if the least number of handovers between them is 1.
  pub overlap_iff_one : (u v : ℕ) → u < n → v < n → (overlaps u v ≡ true) ↔ LeastHandovers n overlaps u v 1
  unfolding first_entry last_entry handovers
  overlap_iff_one u v h g = (
    λ t. record {
      attained = let l = u ∷ (v ∷ []) in let c = chain_cons n overlaps u v [] h t (chain_alone n overlaps v g) in
          (l, leads_joins n overlaps u v l (leads_intro n overlaps u v l c refl refl), refl);
      none_fewer = λ l j.
          ⊎_elim (λ s. leads_some u v l s (overlap_distinct ok u v t))
          (λ s. leads_some v u l s (λ e. overlap_distinct ok u v t (sym e))) (joins_cases n overlaps u v l j);
    },
    λ p. let l = p.attained.0 in
        ⊎_elim (λ s. leads_one u v l s p.attained.2) (λ s. ok.symmetric u v ∙ leads_one v u l s p.attained.2)
        (joins_cases n overlaps u v l p.attained.1),
  )

module _ {n : ℕ} {first second : ℕ → ℕ → Bool} (ok : IntervalOrder n first) (ok' : IntervalOrder n second) where
  -- The same overlaps give the same numbers.
  pub overlaps_numbers : SameOverlaps n first second → SameNumbers n first second
  unfolding last_rank
  overlaps_numbers same =
      record {
        components = component_agrees (tree second) (parent_same same);
        depths = depth_agrees (tree second) (parent_same same);
        ranks = rank_agrees (tree second) (parent_same same);
        lasts = λ v h.
            ap (rank n first) (last_same same v h) ∙ rank_agrees (tree second) (parent_same same) (last n second v) (last_below ok' v h);
      }

  numbers_equal : SameNumbers n first second → (p v : ℕ) → v < n → numbers_of n first p v ≡ numbers_of n second p v
  unfolding numbers_of
  numbers_equal s p v h = rw (s.components v h, s.depths v h, s.ranks v h, s.lasts v h)

  -- The same numbers come from the same overlaps.
  pub numbers_overlaps : SameNumbers n first second → SameOverlaps n first second
  numbers_overlaps s u v h g =
      let a = numbers_of n first 0 in let b = numbers_of n second 0 in
      let e : outcome (a u) (a v) ≡ outcome (b u) (b v) = rw (numbers_equal s 0 u h, numbers_equal s 0 v g) in
      iff_equal (first u v) (second u v)
      (λ t. (overlap_iff_one ok' u v h g).1 ((outcome_apart ok' u v 0 1 h g).0 (sym e ∙ (outcome_apart ok u v 0 1 h g).1 ((overlap_iff_one ok u v h g).0 t))))
      (λ t. (overlap_iff_one ok u v h g).1 ((outcome_apart ok u v 0 1 h g).0 (e ∙ (outcome_apart ok' u v 0 1 h g).1 ((overlap_iff_one ok' u v h g).0 t))))

  -- Two tests are equal on all pairs of windows exactly if each window's numbers are.
  pub same_overlaps_iff_numbers : SameOverlaps n first second ↔ SameNumbers n first second
  same_overlaps_iff_numbers = (overlaps_numbers, numbers_overlaps)
