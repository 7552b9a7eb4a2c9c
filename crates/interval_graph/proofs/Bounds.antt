-- How great the numbers become: component, depth, rank and rank of the last are below the number of windows, and so is
-- every least number of handovers.
-- Vocabulary: component, depth, rank, last_rank, LeastHandovers.
-- Assumes nothing.
use Prim.Native.Nat.{ℕ, zero, suc, ◌-◌, ◌≤◌, ◌<◌}
use mathlib.Core.{Bool.Bool, Path.◌≡◌, Path.refl, Path.sym, Path.ap, Path.◌∙◌, Logic.⊎_elim}
use native.Mathlib.Omega.{arith}
use Rattle.sequences.proofs.Tests.{lt_or_ge}
use Rattle.interval_graph.specs.{Order.IntervalOrder, Chain.handovers, Chain.LeastHandovers}
use Rattle.interval_graph.specs.Tree.{last, parent, ancestor, depth, root, component, rank, last_rank}
use Rattle.interval_graph.specs.Walk.{climb, chain_of}
use Rattle.interval_graph.proofs.{Last.last_ge, Last.last_below, Parent.parent_last, Parent.tree}
use Rattle.interval_graph.proofs.Ancestor.{ancestor_suc, ancestor_below}
use Rattle.interval_graph.proofs.Depth.{depth_le, root_le, ancestor_sum, ancestor_past}
use Rattle.interval_graph.proofs.{Chains.handovers_alone, Chains.least_handovers_joined, Climb.climb_before, Climb.climb_le_depth}
use Rattle.interval_graph.proofs.ShortestChain.{chain_same, chain_symmetric, joined_root, least_is_chain}
use Rattle.interval_graph.proofs.{Rank.rank_lt, Rule.chain_handovers, Component.component_le}

module _ {n : ℕ} {overlaps : ℕ → ℕ → Bool} (ok : IntervalOrder n overlaps) where
  -- The rank of its last is below the number of windows.
  pub last_rank-lt : (v : ℕ) → v < n → last_rank n overlaps v < n
  unfolding last_rank
  last_rank-lt v h = rank_lt n (tree overlaps) (last n overlaps v) (last_below ok v h)

  -- So every number of a window is.
  pub numbers_small : (v : ℕ) → v < n → (component overlaps v < n) × (depth overlaps v < n) × (rank n overlaps v < n) × (last_rank n overlaps v < n)
  numbers_small v h = omega (arith, component_le (tree overlaps) v, depth_le (tree overlaps) v, rank_lt n (tree overlaps) v h, last_rank-lt v h)

  -- What bounds the steps up from the later of two windows, and one more, bounds a least number of handovers.
  pub least_le : (a b k m : ℕ) → a < n → b < n → LeastHandovers n overlaps a b k → (a < b → climb n overlaps a b < m) →
      (b < a → climb n overlaps b a < m) → k ≤ m
  least_le a b k m g l p s t =
      let e : root overlaps a ≡ root overlaps b = joined_root ok a b (least_handovers_joined n overlaps a b k p) in
      let c : k ≡ handovers (chain_of n overlaps a b) = least_is_chain ok a b k g l p in
      ⊎_elim (λ h. omega (arith, s h, chain_handovers ok a b h l e))
      (λ h. ⊎_elim (λ i. omega (arith, t i, chain_handovers ok b a i g (sym e), ap handovers (chain_symmetric n overlaps a b)))
      (λ i. omega (arith, ap handovers (chain_same n overlaps a b (omega arith)), handovers_alone a)) (lt_or_ge b a)) (lt_or_ge a b)

  -- From a window to an earlier one of its component one climbs less than its position.
  climb_lt : (u v : ℕ) → u < v → v < n → root overlaps u ≡ root overlaps v → climb n overlaps u v < v
  climb_lt u v h g e = by-depth (depth overlaps v) refl
    where
      by-depth : (d : ℕ) → depth overlaps v ≡ d → climb n overlaps u v < v
      by-depth zero s = omega (arith, climb_le_depth ok u v e)
      by-depth (suc d) s =
          let x = ancestor overlaps d v in let past = ancestor_past (tree overlaps) v (suc d) (omega arith) in
          let top : parent overlaps x ≡ root overlaps u = sym (ancestor_suc (tree overlaps) d v) ∙ (past ∙ sym e) in
          let covers : x ≤ last n overlaps (root overlaps u) = rw top at (parent_last ok x (ancestor_below (tree overlaps) d v g)) in
          ⊎_elim (λ l. omega (arith, depth_le (tree overlaps) v))
          (λ l. let behind : last n overlaps u < x = climb_before n overlaps u v d (omega arith) in
          ⊎_elim (λ m. omega (arith, ancestor_sum (tree overlaps) d v (omega arith), last_ge ok u, climb_le_depth ok u v e))
          (λ m. let r : root overlaps u ≡ u = omega (arith, root_le (tree overlaps) u) in absurd (omega (arith, ap (last n overlaps) r)))
          (lt_or_ge (root overlaps u) u)) (lt_or_ge (climb n overlaps u v) (depth overlaps v))

  -- A least number of handovers is below the number of windows.
  pub least_lt : (a b k : ℕ) → a < n → b < n → LeastHandovers n overlaps a b k → k < n
  least_lt a b k g l p =
      let e : root overlaps a ≡ root overlaps b = joined_root ok a b (least_handovers_joined n overlaps a b k p) in
      omega (arith, least_le a b k (n - 1) g l p (λ h. omega (arith, climb_lt a b h l e)) (λ h. omega (arith, climb_lt b a h g (sym e))))
