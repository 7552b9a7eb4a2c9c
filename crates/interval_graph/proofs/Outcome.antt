-- Laws of the rule on the numbers of two windows, whatever plan they come from: what its cases say, that the order
-- of the two does not count, and how large a count can be.
-- Vocabulary: between_*, short_*, equal_*, comes_first-*, outcome_*.
-- Assumes nothing.
use Prim.Native.Nat.{ℕ, ◌+◌, ◌-◌, ◌≤◌, ◌<◌}
use mathlib.Core.{Bool.true, Bool.false, Bool.◌&&◌, Bool.◌||◌, Path.◌≡◌, Path.refl, Path.sym, Path.ap, Path.◌∙◌}
use mathlib.Core.Logic.{◌⊎◌, inl, inr, ⊎_elim}
use native.Mathlib.Omega.{arith}
use lib.Dec.{ltb, leb, eqb}
use borrow.Author.Tests.{ltb-true, leb-true, eqb-true, eqb-false, lt-ltb, le-ltb, eq-eqb, ne_eqb}
use Rattle.sequences.proofs.Tests.{truth, cond_cases, lt_or_ge, true_false_absurd, and_left, and_right, and_intro, or_cases, or_left, or_right, eqb_symmetric}
use Rattle.interval_graph.specs.Numbers.{Numbers, apart, no_chain, equal, comes_first, outcome_by, between, outcome, short_between, short_outcome}
use Rattle.interval_graph.specs.Tree.{depth, rank}

module _ (u v : Numbers) where
  -- "Rank u > rank v: … else D + 1"
  between_falling_far : v.rank ≤ u.rank → (u.last < v.rank) ⊎ (u.rank ≤ u.last) → between u v ≡ v.depth - u.depth + 1
  unfolding between
  between_falling_far falling far =
      rw (le-ltb _ _ falling) (cond_cases (λ k. k ≡ v.depth - u.depth + 1) (leb v.rank u.last && ltb u.last u.rank)
      (λ t. absurd (⊎_elim (λ h. omega (arith, leb-true v.rank u.last (and_left _ _ t)))
      (λ h. omega (arith, ltb-true u.last u.rank (and_right (leb v.rank u.last) _ t))) far)) (λ t. refl))

  -- A count is the difference in depth, or at most two more.
  pub between_most : between u v ≤ v.depth - u.depth + 2
  unfolding between
  between_most =
      cond_cases (λ k. k ≤ v.depth - u.depth + 2) (ltb u.rank v.rank)
      (λ s. cond_cases (λ k. k ≤ v.depth - u.depth + 2) (leb v.rank u.last || ltb u.last u.rank) (λ t. omega arith) (λ t. omega arith))
      (λ s. cond_cases (λ k. k ≤ v.depth - u.depth + 2) (leb v.rank u.last && ltb u.last u.rank) (λ t. omega arith) (λ t. omega arith))

-- The two cases of the count by short tags.
module _ (u v : Numbers) where
  -- "D + 1 if rank u < rank v"
  pub short_rising : u.rank < v.rank → short_between u v ≡ v.depth - u.depth + 1
  unfolding short_between
  short_rising rising = rw (lt-ltb _ _ rising)

  -- "else D"
  pub short_falling : v.rank ≤ u.rank → short_between u v ≡ v.depth - u.depth
  unfolding short_between
  short_falling falling = rw (le-ltb _ _ falling)

-- For two windows of equal depth and rank, of which neither comes first, the count is 1 either way.
pub between_level : (u v : Numbers) → u.depth ≡ v.depth → u.rank ≡ v.rank → between u v ≡ 1
between_level u v depth rank =
    omega (arith, between_falling_far u v (omega arith) (⊎_elim (λ h. inl (omega arith)) (λ h. inr h) (lt_or_ge u.last u.rank)))

-- Every window's numbers are equal to themselves.
pub equal_refl : (u : Numbers) → equal u u ≡ true
unfolding equal
equal_refl u = rw (eq-eqb u.plan _ refl, eq-eqb u.component _ refl, eq-eqb u.depth _ refl, eq-eqb u.rank _ refl, eq-eqb u.last _ refl)

-- Whether two windows' numbers are equal does not depend on their order.
pub equal_symmetric : (u v : Numbers) → equal u v ≡ equal v u
unfolding equal
equal_symmetric u v =
    rw (
      eqb_symmetric u.plan v.plan,
      eqb_symmetric u.component v.component,
      eqb_symmetric u.depth v.depth,
      eqb_symmetric u.rank v.rank,
      eqb_symmetric u.last v.last,
    )

-- What it says that u comes first, or does not.
module _ (u v : Numbers) where
  -- The window that comes first is no deeper than the other.
  pub comes_first-depth : comes_first u v ≡ true → u.depth ≤ v.depth
  unfolding comes_first
  comes_first-depth t =
      ⊎_elim (λ h. omega (arith, ltb-true u.depth v.depth h)) (λ h. omega (arith, eqb-true u.depth v.depth (and_left _ _ h)))
      (or_cases (ltb u.depth v.depth) _ t)

  -- One that does not come first is no less deep.
  pub comes_first-not_depth : comes_first u v ≡ false → v.depth ≤ u.depth
  unfolding comes_first
  comes_first-not_depth t =
      ⊎_elim (λ h. absurd (true_false_absurd _ (or_left (ltb u.depth v.depth) _ (lt-ltb _ _ h)) t)) (λ h. h)
      (lt_or_ge u.depth v.depth)

  -- One that does not come first has at equal depth no smaller rank.
  pub comes_first-not_rank : comes_first u v ≡ false → u.depth ≡ v.depth → v.rank ≤ u.rank
  unfolding comes_first
  comes_first-not_rank t e =
      ⊎_elim
      (λ h. absurd (true_false_absurd _ (or_right (ltb u.depth v.depth) _ (and_intro _ _ (eq-eqb _ _ e) (lt-ltb u.rank v.rank h))) t))
      (λ h. h) (lt_or_ge u.rank v.rank)

  -- The window that comes first has at equal depth the smaller rank.
  pub comes_first-rank : comes_first u v ≡ true → u.depth ≡ v.depth → u.rank < v.rank
  unfolding comes_first
  comes_first-rank t e =
      ⊎_elim (λ h. absurd (omega (arith, ltb-true u.depth v.depth h))) (λ h. ltb-true _ _ (and_right (eqb u.depth v.depth) _ h))
      (or_cases (ltb u.depth v.depth) _ t)

-- What is said of two windows by whatever rule, case by case.
module _ (rule : Numbers → Numbers → ℕ) (u v : Numbers) where
  -- "Equal tags give 0"
  pub outcome_equal : equal u v ≡ true → outcome_by rule u v ≡ apart 0
  unfolding outcome_by
  outcome_equal t = rw t

  -- "different components no chain"
  pub outcome_components : equal u v ≡ false → (u.component ≡ v.component → ⊥) → outcome_by rule u v ≡ no_chain
  unfolding outcome_by
  outcome_components t other = rw (t, ne_eqb _ _ other)

  -- The count with u as the window that comes first.
  pub outcome_first : equal u v ≡ false → u.component ≡ v.component → comes_first u v ≡ true → outcome_by rule u v ≡ apart (rule u v)
  unfolding outcome_by
  outcome_first t one s = rw (t, eq-eqb _ _ one, s)

  -- The count with v as the window that comes first.
  pub outcome_second : equal u v ≡ false → u.component ≡ v.component → comes_first u v ≡ false → outcome_by rule u v ≡ apart (rule v u)
  unfolding outcome_by
  outcome_second t one s = rw (t, eq-eqb _ _ one, s)

-- The order in which two windows are named does not count, where the rule does not mind it for two of equal depth and rank.
outcome_turned : (rule : Numbers → Numbers → ℕ) → ((u v : Numbers) → u.depth ≡ v.depth → u.rank ≡ v.rank → rule u v ≡ rule v u) →
    (u v : Numbers) → outcome_by rule u v ≡ outcome_by rule v u
outcome_turned rule level u v =
    ⊎_elim (λ t. outcome_equal rule u v t ∙ sym (outcome_equal rule v u (equal_symmetric v u ∙ t)))
    (λ t. ⊎_elim (λ one. one-component t (sym (equal_symmetric u v) ∙ t) (eqb-true _ _ one))
    (λ two. outcome_components rule u v t (eqb-false _ _ two) ∙ sym (outcome_components rule v u (equal_symmetric v u ∙ t) (λ e. eqb-false _ _ two (sym e))))
    (truth (eqb u.component v.component))) (truth (equal u v))
  where
    both : comes_first u v ≡ true → comes_first v u ≡ true → ⊥
    both s s' =
        let depths : u.depth ≡ v.depth = omega (arith, comes_first-depth u v s, comes_first-depth v u s') in
        omega (arith, comes_first-rank u v s depths, comes_first-rank v u s' (sym depths))

    neither : comes_first u v ≡ false → comes_first v u ≡ false → rule v u ≡ rule u v
    neither s s' =
        let depths : u.depth ≡ v.depth = omega (arith, comes_first-not_depth u v s, comes_first-not_depth v u s') in
        let ranks : u.rank ≡ v.rank = omega (arith, comes_first-not_rank u v s depths, comes_first-not_rank v u s' (sym depths)) in
        level v u (sym depths) (sym ranks)

    one-component : equal u v ≡ false → equal v u ≡ false → u.component ≡ v.component → outcome_by rule u v ≡ outcome_by rule v u
    one-component t t' e =
        ⊎_elim (λ s. outcome_first rule u v t e s
        ∙ ⊎_elim (λ s'. absurd (both s s')) (λ s'. sym (outcome_second rule v u t' (sym e) s')) (truth (comes_first v u)))
        (λ s. outcome_second rule u v t e s ∙ ⊎_elim (λ s'. sym (outcome_first rule v u t' (sym e) s'))
        (λ s'. ap apart (neither s s') ∙ sym (outcome_second rule v u t' (sym e) s')) (truth (comes_first v u))) (truth (comes_first u v))

pub outcome_symmetric : (u v : Numbers) → outcome u v ≡ outcome v u
outcome_symmetric = outcome_turned between (λ u v depth rank. between_level u v depth rank ∙ sym (between_level v u (sym depth) (sym rank)))

pub short_symmetric : (u v : Numbers) → short_outcome u v ≡ short_outcome v u
short_symmetric =
    outcome_turned short_between
    (λ u v depth rank. omega (arith, short_falling u v (omega arith), short_falling v u (omega arith)))

-- A count is at most two more than the greater depth.
pub outcome_most : (u v : Numbers) (depth k : ℕ) → u.depth ≤ depth → v.depth ≤ depth → outcome u v ≡ apart k → k ≤ depth + 2
unfolding outcome_by
outcome_most u v depth k hu hv =
    cond_cases (λ o. o ≡ apart k → k ≤ depth + 2) (equal u v) (λ t e. omega (arith, counts 0 e))
    (λ t. cond_cases (λ o. o ≡ apart k → k ≤ depth + 2) (eqb u.component v.component)
    (λ s. cond_cases (λ m. apart m ≡ apart k → k ≤ depth + 2) (comes_first u v)
    (λ f e. omega (arith, counts (between u v) e, between_most u v)) (λ f e. omega (arith, counts (between v u) e, between_most v u)))
    (λ s e. let z : ◌≡◌ {A = ℕ} 0 1 = cc in absurd (omega arith)))
  where
    counts : (m : ℕ) → apart m ≡ apart k → m ≡ k
    counts m e = cc
