-- The loop's invariant is `Passing`.
use Rattle.std.proofs.Common.{◌≡◌, true, false, arith}
use Rattle.std.proofs.lemmas.Grind.{common_steps}
use Rattle.minutes.specs.Rooted.{plan_of}
use Rattle.minutes.proofs.Reached.{reached}
use Rattle.reaching.proofs.Seeking.{at_window, passing_start, passing_turn, passing_found}
use Rattle.reaching.proofs.overlaps.behind_last.Goals as goal

pub unwrap-requires : goal.unwrap-requires
unwrap-requires c =
    let here = at_window _ c.args.tree.now.plan.accepted _ _ c.requires.to_bound c.requires.last_before_to in grind (arith, common_steps)

pub overflow_step-next : goal.overflow_step-next
overflow_step-next c =
    let here = at_window _ c.args.tree.now.plan.accepted _ _ c.requires.to_bound c.requires.last_before_to in grind (arith, common_steps)

pub loop-next-init : goal.loop-next-init
loop-next-init c = passing_start _ c.args.tree.now.plan.accepted _ _ c.requires.to_bound c.requires.last_before_to

pub returns-then-not-reaches : goal.returns-then-not-reaches
returns-then-not-reaches c =
    let far : reached (plan_of c.args.tree.now) c.args.at c.loop-next.next ≡ false = grind (arith, common_steps) in
    passing_found _ c.args.tree.now.plan.accepted _ _ c.requires.to_bound c.requires.last_before_to _ c.loop-next.invariant c.loop-next-test.true far

pub loop-next-preserved : goal.loop-next-preserved
loop-next-preserved c =
    let near : reached (plan_of c.args.tree.now) c.args.at c.loop-next.next ≡ true = grind (arith, common_steps) in
    passing_turn _ c.args.tree.now.plan.accepted _ _ c.requires.to_bound c.requires.last_before_to _ c.loop-next.invariant c.loop-next-test.true near
