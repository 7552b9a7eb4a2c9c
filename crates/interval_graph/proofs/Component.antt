-- Components are numbered from 0 in the order of their roots, and windows have one component exactly if they have one root.
-- Vocabulary: component, root, is_root.
-- Assumes nothing.
use Prim.Native.Nat.{ℕ, suc, ◌+◌, ◌-◌, ◌≤◌, ◌<◌}
use mathlib.Core.{Path.◌≡◌, Path.ap, Logic.⊎_elim}
use native.Mathlib.Omega.{arith}
use Rattle.sequences.{specs.Search.count, proofs.Tests.lt_or_ge}
use Rattle.sequences.proofs.Search.{count_true, count_monotone, count_le}
use Rattle.interval_graph.specs.Forest.{is_root, root, component, Forest}
use Rattle.interval_graph.proofs.Depth.{root_is_root, root_le}

module _ {parent : ℕ → ℕ} (forest : Forest parent) where
  -- Windows of one root have one component.
  pub root_component : (u v : ℕ) → root parent u ≡ root parent v → component parent u ≡ component parent v
  unfolding component
  root_component u v e = ap (count (is_root parent)) e

  -- Of two windows the one with the earlier root has the smaller component.
  pub component_rises : (u v : ℕ) → root parent u < root parent v → component parent u < component parent v
  unfolding component
  component_rises u v h =
      let r = root parent u in let k = root parent v - suc r in let e : root parent v ≡ suc r + k = omega arith in
      let p = is_root parent in omega (arith, count_true p r (root_is_root forest u), count_monotone p (suc r) k, ap (count p) e)

  -- Windows of one component have one root.
  pub component_root : (u v : ℕ) → component parent u ≡ component parent v → root parent u ≡ root parent v
  component_root u v e =
      ⊎_elim (λ h. absurd (omega (arith, component_rises u v h)))
      (λ h. ⊎_elim (λ g. absurd (omega (arith, component_rises v u g))) (λ g. omega arith) (lt_or_ge (root parent v) (root parent u)))
      (lt_or_ge (root parent u) (root parent v))

  -- Position 0 is in component 0.
  pub component_first : component parent 0 ≡ 0
  unfolding component count
  component_first = let e : root parent 0 ≡ 0 = omega (arith, root_le forest 0) in rw e

  -- The component of a window is at most its position.
  pub component_le : (v : ℕ) → component parent v ≤ v
  unfolding component
  component_le v = omega (arith, count_le (is_root parent) (root parent v), root_le forest v)
