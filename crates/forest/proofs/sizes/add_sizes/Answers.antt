-- `forest::sizes::add_sizes` meets its contract. The loop's invariant: the windows from `position` on are added up.
use native.Mathlib.Omega.{arith}
use Prim.Native.Nat.{◌-◌}
use mathlib.Core.Path.{refl}
use Rattle.forest.proofs.Parented.{table_forest}
use Rattle.forest.proofs.Sizing.{sized_start, sized_child, sized_root, sized_end, sum_few}
use Rattle.forest.proofs.sizes.add_sizes.Goals as goal

pub loop-position-init : goal.loop-position-init
loop-position-init c = sized_start (table_forest _) _ _ c.requires.holds

pub overflow_add-sizes : goal.overflow_add-sizes
overflow_add-sizes c = let at = c.loop-position in
    omega (
      arith,
      sum_few (table_forest _) _ _ _ _ (at.position - 1) refl (omega arith) at.invariant
          c.parent_at-parent.ensures.value (omega arith),
    )

pub loop-position-preserved-then-parent-position : goal.loop-position-preserved-then-parent-position
loop-position-preserved-then-parent-position c = let at = c.loop-position in
    sized_child (table_forest _) _ _ _ _ (at.position - 1) refl (omega arith) at.invariant c.parent_at-parent.ensures.value (omega arith)

pub loop-position-preserved : goal.loop-position-preserved
loop-position-preserved c = let at = c.loop-position in
    sized_root (table_forest _) _ _ _ _ (at.position - 1) refl (omega arith) at.invariant c.parent_at-parent.ensures.value (omega arith)

pub returns : goal.returns
returns c = sized_end (table_forest _) _ _ _ (omega arith) c.loop-position.invariant
