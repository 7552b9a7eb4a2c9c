-- Where lasts do not fall, the rule on short tags says of every two windows what the rule on all five numbers does: for u before v
-- in one component, with w the ancestor of v on u's level, a w behind u is at most the last of u, and where w is not behind u the
-- ancestor below w is at most the last of u. So two of the four cases of the longer rule never arise.
-- Vocabulary: LastsRise, short, short_between, short_outcome.
-- Assumes nothing.
use Prim.Native.Nat.{ℕ, zero, suc, ◌+◌, ◌-◌, ◌≤◌, ◌<◌}
use mathlib.Core.Bool.{Bool, true, false}
use mathlib.Core.{Path.◌≡◌, Path.sym, Path.ap, Path.◌∙◌, Logic.⊎_elim}
use native.Mathlib.Omega.{arith}
use lib.Dec.{ltb}
use borrow.Author.Tests.{ltb-true, ltb-false}
use Rattle.sequences.proofs.Tests.{cond_cases, lt_or_ge, equal_or_not, truth}
use Rattle.interval_graph.specs.{Order.IntervalOrder, Walk.climb}
use Rattle.interval_graph.specs.Tree.{last, parent, ancestor, depth, root, rank, LastsRise}
use Rattle.interval_graph.specs.Numbers.{Numbers, numbers_of, apart, equal, comes_first, between, outcome, short, short_between, short_outcome}
use Rattle.interval_graph.proofs.Ancestor.{ancestor_zero, ancestor_suc, ancestor_below}
use Rattle.interval_graph.proofs.{Monotone.depth_monotone, Component.root_component, Component.component_root, Before.rank_lt_iff}
use Rattle.interval_graph.proofs.Parent.{parent_last, tree}
use Rattle.interval_graph.proofs.Level.{Pair, parent_before, climb_at_level, climb_below_level}
use Rattle.interval_graph.proofs.Rule.{equal_component, equal_rank, between_climb, first_earlier, same_window, not_equal, outcome_none}
use Rattle.interval_graph.proofs.Outcome.{equal_refl, outcome_equal, outcome_components, outcome_first, outcome_symmetric, short_symmetric}

-- Lasts do not fall from any window to any later one.
lasts_on : (n : ℕ) (overlaps : ℕ → ℕ → Bool) → LastsRise n overlaps → (u k : ℕ) → u + k < n → last n overlaps u ≤ last n overlaps (u + k)
lasts_on n overlaps rise u zero h = let e : u + zero ≡ u = omega arith in rw e (omega arith)
lasts_on n overlaps rise u (suc k) h =
    let e : u + suc k ≡ suc (u + k) = omega arith in
    rw e (omega (arith, lasts_on n overlaps rise u k (omega arith), rise (u + k) (omega arith)))

pub lasts_rise : (n : ℕ) (overlaps : ℕ → ℕ → Bool) → LastsRise n overlaps → (u v : ℕ) → u ≤ v → v < n → last n overlaps u ≤ last n overlaps v
lasts_rise n overlaps rise u v h g =
    let e : u + (v - u) ≡ v = omega arith in
    rw e at (lasts_on n overlaps rise u (v - u) (omega arith))

-- The numbers of a window's short tag.
abbrev short_of : (n : ℕ) (overlaps : ℕ → ℕ → Bool) → (plan v : ℕ) → Numbers
short_of n overlaps plan v = short (numbers_of n overlaps plan v)

module _ {n : ℕ} {overlaps : ℕ → ℕ → Bool} (ok : IntervalOrder n overlaps) where
  -- What the two rules say of windows of two components, and of one window named twice.
  short_unequal : (a b p : ℕ) → a < n → b < n → (a ≡ b → ⊥) → equal (short_of n overlaps p a) (short_of n overlaps p b) ≡ false
  unfolding short numbers_of
  short_unequal a b p g l d =
      ⊎_elim (λ t. absurd (d (same_window ok a b g l (equal_component _ _ t) (equal_rank _ _ t)))) (λ t. t)
      (truth (equal (short_of n overlaps p a) (short_of n overlaps p b)))

  short_components : (a b p : ℕ) → a < n → b < n → (root overlaps a ≡ root overlaps b → ⊥) →
      short_outcome (short_of n overlaps p a) (short_of n overlaps p b) ≡ outcome (numbers_of n overlaps p a) (numbers_of n overlaps p b)
  unfolding short numbers_of
  short_components a b p g l d =
      outcome_components short_between _ _ (short_unequal a b p g l (λ s. d (ap (root overlaps) s))) (λ e. d (component_root (tree overlaps) a b e))
      ∙ sym (outcome_none ok a b p g l d)

  short_itself : (a p : ℕ) → short_outcome (short_of n overlaps p a) (short_of n overlaps p a) ≡ outcome (numbers_of n overlaps p a) (numbers_of n overlaps p a)
  short_itself a p = outcome_equal short_between _ _ (equal_refl _) ∙ sym (outcome_equal between _ _ (equal_refl _))

  module _ (rise : LastsRise n overlaps) where
    -- Where w stands behind u, u reaches it.
    level_reached : (u v D : ℕ) → Pair n overlaps u v D → u < ancestor overlaps D v → ancestor overlaps D v ≤ last n overlaps u
    level_reached u v D p h =
        let w = ancestor overlaps D v in
        omega (
          arith,
          parent_last ok w (ancestor_below (tree overlaps) D v p.window),
          lasts_rise n overlaps rise (parent overlaps w) u (parent_before ok u v D p h) (omega (arith, p.order, p.window)),
        )

    -- Where it does not, u reaches the ancestor below it.
    below_reached : (u v D : ℕ) → Pair n overlaps u v (suc D) → ancestor overlaps (suc D) v ≤ u → ancestor overlaps D v ≤ last n overlaps u
    below_reached u v D p h =
        let x = ancestor overlaps D v in let up = ancestor_suc (tree overlaps) D v in
        omega (
          arith,
          parent_last ok x (ancestor_below (tree overlaps) D v p.window),
          lasts_rise n overlaps rise (parent overlaps x) u (omega arith) (omega (arith, p.order, p.window)),
        )

    falling : (u v D : ℕ) → Pair n overlaps u v D → ancestor overlaps D v ≤ u → D ≡ suc (climb n overlaps u v)
    falling u v zero p h = absurd (omega (arith, ancestor_zero (tree overlaps) v, p.order))
    falling u v (suc D) p h = omega (arith, climb_below_level ok u v D p (below_reached u v D p h))

    short_pair : (u v p q D : ℕ) → Pair n overlaps u v D → short_between (short_of n overlaps p u) (short_of n overlaps q v) ≡ suc (climb n overlaps u v)
    unfolding short_between short numbers_of
    short_pair u v p q D r =
        let e : depth overlaps v - depth overlaps u ≡ D = omega (arith, r.levels) in let w = ancestor overlaps D v in
        let less = rank_lt_iff ok u v D (omega (arith, r.order, r.window)) r.window r.one_root r.levels in
        rw e (cond_cases (λ k. k ≡ suc (climb n overlaps u v)) (ltb (rank n overlaps u) (rank n overlaps v))
        (λ t. let b : u < w = less.0 (ltb-true (rank n overlaps u) (rank n overlaps v) t) in
        omega (arith, climb_at_level ok u v D r b (level_reached u v D r b)))
        (λ t. falling u v D r (⊎_elim (λ b. absurd (omega (arith, less.1 b, ltb-false (rank n overlaps u) (rank n overlaps v) t))) (λ b. b)
        (lt_or_ge u w))))

    -- For u before v in one component both rules count the same.
    pub short_between_lem : (u v p : ℕ) → u < v → v < n → root overlaps u ≡ root overlaps v →
        short_between (short_of n overlaps p u) (short_of n overlaps p v) ≡ between (numbers_of n overlaps p u) (numbers_of n overlaps p v)
    short_between_lem u v p h g e =
        short_pair u v p p (depth overlaps v - depth overlaps u)
        (record { order = h; window = g; one_root = e; levels = omega (arith, depth_monotone ok u v (omega arith) g e) })
        ∙ sym (between_climb ok u v p p h g e)

    first_short : (u v p : ℕ) → u < v → v < n → root overlaps u ≡ root overlaps v →
        comes_first (short_of n overlaps p u) (short_of n overlaps p v) ≡ true
    unfolding comes_first short
    first_short u v p h g e = first_earlier ok u v p p h g e

    short_earlier : (u v p : ℕ) → u < v → v < n → root overlaps u ≡ root overlaps v →
        short_outcome (short_of n overlaps p u) (short_of n overlaps p v) ≡ outcome (numbers_of n overlaps p u) (numbers_of n overlaps p v)
    unfolding short numbers_of
    short_earlier u v p h g e =
        let l : u < n = omega arith in let d : u ≡ v → ⊥ = λ s. omega arith in let c = root_component (tree overlaps) u v e in
        outcome_first short_between _ _ (short_unequal u v p l g d) c (first_short u v p h g e)
        ∙ (ap apart (short_between_lem u v p h g e) ∙ sym (outcome_first between _ _ (not_equal ok u v p l g d) c (first_earlier ok u v p p h g e)))

    -- Of every two windows, in either order and one twice, both rules say the same.
    pub short_outcome_lem : (a b p : ℕ) → a < n → b < n →
        short_outcome (short_of n overlaps p a) (short_of n overlaps p b) ≡ outcome (numbers_of n overlaps p a) (numbers_of n overlaps p b)
    short_outcome_lem a b p g l =
        ⊎_elim (λ e. ⊎_elim (λ h. short_earlier a b p h l e) (λ h. ⊎_elim
        (λ m. short_symmetric _ _ ∙ (short_earlier b a p m g (sym e) ∙ outcome_symmetric (numbers_of n overlaps p b) (numbers_of n overlaps p a)))
        (λ m. let s : a ≡ b = omega arith in rw s (short_itself b p)) (lt_or_ge b a)) (lt_or_ge a b))
        (λ d. short_components a b p g l d) (equal_or_not (root overlaps a) (root overlaps b))
