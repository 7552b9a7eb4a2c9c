-- `forest::ranks::assign_ranks` meets its contract. The loop's invariant is `Ranked`; the measure is what is left of the windows.
use native.Mathlib.Omega.{arith}
use Rattle.sequences.proofs.Table.{filling_end}
use Rattle.forest.proofs.Parented.{table_forest}
use Rattle.forest.proofs.Ranking.{ranked_start, ranked_root, ranked_child, list_few, list_some, child_start}
use Rattle.forest.proofs.ranks.assign_ranks.Goals.{else-parent-position, then-parent-position}
use Rattle.forest.proofs.ranks.assign_ranks.Goals as goal

pub loop-position-init : goal.loop-position-init
loop-position-init c = ranked_start _ _ _ _

pub overflow_add-next : goal.overflow_add-next
overflow_add-next c = let h = c.loop-position-test.true in
    let k = c.requires.holds.at _ h in
    omega (
      arith,
      list_few (table_forest _) _ _ _ _ h c.parent_at-parent.ensures.value k,
      child_start (table_forest _) _ _ _ _ h
          c.parent_at-parent.ensures.value k c.loop-position.invariant c.if-parent-position.true,
    )

pub overflow_add-ranks : goal.overflow_add-ranks
overflow_add-ranks c = let h = c.loop-position-test.true in
    let p = c.parent_at-parent.ensures.value in
    let s = c.loop-position.invariant in
    let k = c.requires.holds.at _ h in
    elim c.if-parent-position.branch [
      | then-parent-position w ↦ omega (arith, w.start-is, list_few (table_forest _) _ _ _ _ h p k, child_start (table_forest _) _ _ _ _ h p k s w.if-parent-position.true)
      | else-parent-position w ↦ omega
          (arith, w.start-is, list_few (table_forest _) _ _ _ _ h p k)
    ]

pub overflow_sub-ranks : goal.overflow_sub-ranks
overflow_sub-ranks c = let h = c.loop-position-test.true in
    let k = c.requires.holds.at _ h in
    omega (arith, list_some (table_forest _) _ _ _ _ h c.parent_at-parent.ensures.value k)

pub loop-position-preserved : goal.loop-position-preserved
loop-position-preserved c = let h = c.loop-position-test.true in
    let p = c.parent_at-parent.ensures.value in
    let s = c.loop-position.invariant in
    let k = c.requires.holds.at _ h in
    elim c.if-parent-position.branch [
      | then-parent-position w ↦ rw (w.next-is, w.start-is) (ranked_child (table_forest _) _ _ _ _ h p k s c.requires.entries_in_next c.requires.entries_in_ranks w.if-parent-position.true)
      | else-parent-position w ↦ rw (w.next-is, w.start-is)
          (ranked_root (table_forest _) _ _ _ _ h p k s c.requires.entries_in_next c.requires.entries_in_ranks w.if-parent-position.false)
    ]

pub returns : goal.returns
returns c = filling_end _ _ _ _ _ c.loop-position-test.false c.loop-position.invariant.filling
