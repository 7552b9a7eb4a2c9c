-- Paper 02, Q-5: reach. "Reach becomes the greatest number of handovers between two windows of the component. It comes with the first pair
-- that has it, by smaller position and then by larger. A component of one window has reach 0 and its window twice."
-- Vocabulary: Farthest; handovers_between, in_component, partner, first_with, reach, smaller, larger; last_in_component, reach_bound.
use Rattle.std.specs.Prelude.{ℕ, suc, ◌≤◌, ◌<◌, ltb, leb, eqb}
use mathlib.Core.{Bool.Bool, Bool.◌&&◌, Path.◌≡◌, Logic.◌⊎◌}
use Rattle.sequences.specs.Search.{least, greatest}
use Rattle.interval_graph.specs.Chain.{handovers, Joined, LeastHandovers}
use Rattle.interval_graph.specs.{Tree.depth, Tree.component, Walk.chain_of}

module _ (n : ℕ) (overlaps : ℕ → ℕ → Bool) where
  -- The greatest number of handovers between two windows of at's component (some two have it, none more), and "the first pair that has
  -- it, by smaller position and then by larger". Over any overlap test, by chains alone: the windows of at's component are those that some
  -- chain joins with it.
  pub record Farthest (at reach smaller larger : ℕ) : Type 0 where
    pub in_order : smaller ≤ larger
    pub smaller_joined : Joined n overlaps at smaller
    pub larger_joined : Joined n overlaps at larger
    pub attained : LeastHandovers n overlaps smaller larger reach
    pub none_more : (u v k : ℕ) → Joined n overlaps at u → Joined n overlaps at v → LeastHandovers n overlaps u v k → k ≤ reach
    pub first : (u v : ℕ) → u ≤ v → Joined n overlaps at u → Joined n overlaps at v → LeastHandovers n overlaps u v reach →
        (smaller < u) ⊎ ((smaller ≡ u) × (larger ≤ v))

  -- The same, computed. Between two windows of one component there are as many handovers as the chain has that is written between them.
  unfoldable pub handovers_between : ℕ → ℕ → ℕ
  handovers_between u v = handovers (chain_of n overlaps u v)

  unfoldable pub in_component : ℕ → ℕ → Bool
  in_component at v = eqb (component overlaps v) (component overlaps at)

  -- The first window of at's component, from u on, that is k handovers from u; n where there is none.
  unfoldable pub partner : (at k u : ℕ) → ℕ
  partner at k u = least (λ v. leb u v && (in_component at v && eqb (handovers_between u v) k)) n

  -- The first window of at's component that has such a partner; n where none has.
  unfoldable pub first_with : (at k : ℕ) → ℕ
  first_with at k = least (λ u. in_component at u && ltb (partner at k u) n) n

  -- The greatest number that some two windows have. (All are below n.)
  unfoldable pub reach : ℕ → ℕ
  reach at = greatest (λ k. ltb (first_with at k) n) n 0

  unfoldable pub smaller : ℕ → ℕ
  smaller at = first_with at (reach at)

  unfoldable pub larger : ℕ → ℕ
  larger at = partner at (reach at) (smaller at)

  -- What stays of paper 01's reach, as a law: "the depth of its last window plus 1; no two windows of the component are more handovers
  -- apart than that". First the greatest position in v's component.
  unfoldable pub last_in_component : ℕ → ℕ
  last_in_component v = greatest (in_component v) n v

  unfoldable pub reach_bound : ℕ → ℕ
  reach_bound v = suc (depth overlaps (last_in_component v))
