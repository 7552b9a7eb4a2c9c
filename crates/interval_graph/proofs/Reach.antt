-- Reach: no two windows of a component are more handovers apart than the depth of its last window plus 1.
-- Vocabulary: last_in_component, reach_bound, LeastHandovers.
-- Assumes nothing.
use Prim.Native.Nat.{ℕ, ◌≤◌, ◌<◌}
use mathlib.Core.{Bool.Bool, Path.◌≡◌, Path.sym, Path.ap, Path.◌∙◌, Logic.⊎_elim}
use native.Mathlib.Omega.{arith}
use lib.Dec.{eqb}
use borrow.Author.Tests.{eqb-true, eq-eqb}
use Rattle.sequences.proofs.Search.{greatest_ge, greatest_cases}
use Rattle.interval_graph.specs.{Order.IntervalOrder, Chain.LeastHandovers, Tree.depth, Tree.root, Tree.component}
use Rattle.interval_graph.specs.Reach.{in_component, last_in_component, reach_bound}
use Rattle.interval_graph.proofs.Monotone.{depth_monotone}
use Rattle.interval_graph.proofs.{Component.component_root, Climb.climb_le_depth, Bounds.least_le, Parent.tree}

module _ (n : ℕ) (overlaps : ℕ → ℕ → Bool) where
  -- The last window of v's component is a window.
  pub last_in_component_window : (v : ℕ) → v < n → last_in_component n overlaps v < n
  unfolding last_in_component in_component
  last_in_component_window v h =
      ⊎_elim (λ c. c.0) (λ c. omega arith) (greatest_cases (λ w. eqb (component overlaps w) (component overlaps v)) n v)

  -- It is in v's component.
  pub last_in_component-component : (v : ℕ) → component overlaps (last_in_component n overlaps v) ≡ component overlaps v
  unfolding last_in_component in_component
  last_in_component-component v =
      ⊎_elim (λ c. eqb-true _ (component overlaps v) c.1) (λ c. ap (component overlaps) c.0)
      (greatest_cases (λ w. eqb (component overlaps w) (component overlaps v)) n v)

  -- No window of v's component stands behind it.
  pub last_in_component-greatest : (v w : ℕ) → w < n → component overlaps w ≡ component overlaps v → w ≤ last_in_component n overlaps v
  unfolding last_in_component in_component
  last_in_component-greatest v w h e =
      greatest_ge (λ w. eqb (component overlaps w) (component overlaps v)) n v w h (eq-eqb (component overlaps w) (component overlaps v) e)

module _ {n : ℕ} {overlaps : ℕ → ℕ → Bool} (ok : IntervalOrder n overlaps) where
  -- No window of v's component is as deep as its reach.
  depth_lt_reach : (v w : ℕ) → v < n → w < n → component overlaps w ≡ component overlaps v → depth overlaps w < reach_bound n overlaps v
  unfolding reach_bound
  depth_lt_reach v w h g e =
      let z = last_in_component n overlaps v in let r = component_root (tree overlaps) w z (e ∙ sym (last_in_component-component n overlaps v)) in
      omega (arith, depth_monotone ok w z (last_in_component-greatest n overlaps v w g e) (last_in_component_window n overlaps v h) r)

  -- No two windows of v's component are more handovers apart than its reach.
  pub reach_bound_lem : (v a b k : ℕ) → v < n → a < n → b < n → component overlaps a ≡ component overlaps v →
      component overlaps b ≡ component overlaps v → LeastHandovers n overlaps a b k → k ≤ reach_bound n overlaps v
  reach_bound_lem v a b k h g l p q c =
      let e : root overlaps a ≡ root overlaps b = component_root (tree overlaps) a b (p ∙ sym q) in
      least_le ok a b k (reach_bound n overlaps v) g l c (λ s. omega (arith, climb_le_depth ok a b e, depth_lt_reach v b h l q))
      (λ s. omega (arith, climb_le_depth ok b a (sym e), depth_lt_reach v a h g p))
