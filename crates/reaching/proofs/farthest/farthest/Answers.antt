-- The first window that has its last before the top of the component's last window, or that there is none.
use Rattle.std.proofs.Common.{arith}
use Rattle.plan.proofs.Acceptance.{few_windows}
use Rattle.reaching.proofs.Reached.{farthest_within, behind_spine, larger_window, farthest_beyond}
use Rattle.reaching.proofs.farthest.farthest.Goals as goal

pub returns-then-smaller-whole : goal.returns-then-smaller-whole
returns-then-smaller-whole c =
    farthest_within _ c.args.tree.now.plan.accepted _ c.requires.at_bound c.component_of-whole.ensures c.first_apart-smaller.ensures
    c.if-smaller-whole.true

pub levels_from-under-requires-clause-spine : goal.levels_from-under-requires-clause-spine
levels_from-under-requires-clause-spine c =
    rw c.behind_last.ensures
    (behind_spine _ c.args.tree.now.plan.accepted _ c.requires.at_bound c.component_of-whole.ensures c.first_apart-smaller.ensures
    c.if-smaller-whole.false)

pub overflow_cast-result-4 : goal.overflow_cast-result-4
overflow_cast-result-4 c =
    let within = larger_window _ c.args.tree.now.plan.accepted _ c.requires.at_bound c.component_of-whole.ensures c.first_apart-smaller.ensures
    c.if-smaller-whole.false (rw c.behind_last.ensures at c.levels_from-under.ensures) in
    omega (arith, few_windows _ c.args.tree.now.plan.accepted)

pub returns : goal.returns
returns c =
    farthest_beyond _ c.args.tree.now.plan.accepted _ c.requires.at_bound c.component_of-whole.ensures c.first_apart-smaller.ensures
    c.if-smaller-whole.false (rw c.behind_last.ensures at c.levels_from-under.ensures)
