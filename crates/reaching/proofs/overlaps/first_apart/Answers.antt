-- The loop's invariant is `Seeking`.
use Rattle.std.proofs.Common.{◌≡◌, true, false, arith}
use Rattle.std.proofs.lemmas.Grind.{common_steps}
use Rattle.minutes.specs.Rooted.{plan_of}
use Rattle.minutes.proofs.Reached.{reached}
use Rattle.reaching.proofs.Seeking.{seeking_turn, seeking_found}
use Rattle.reaching.proofs.overlaps.first_apart.Goals as goal

pub returns-then-not-reaches : goal.returns-then-not-reaches
returns-then-not-reaches c =
    let far : reached (plan_of c.args.tree.now) c.loop-at.at c.args.top ≡ false = grind (arith, common_steps) in
    seeking_found _ c.args.tree.now.plan.accepted _ _ c.requires.top_bound _ c.loop-at.invariant c.loop-at-test.true far

pub loop-at-preserved : goal.loop-at-preserved
loop-at-preserved c =
    let near : reached (plan_of c.args.tree.now) c.loop-at.at c.args.top ≡ true = grind (arith, common_steps) in
    seeking_turn _ c.args.tree.now.plan.accepted _ _ c.requires.top_bound _ c.loop-at.invariant c.loop-at-test.true near
