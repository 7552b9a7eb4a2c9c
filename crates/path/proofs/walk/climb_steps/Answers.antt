-- The loop's invariant is `Climbing`; the measure is the position, which each step lowers.
use Rattle.std.proofs.Common.{◌≡◌, false, arith}
use Rattle.std.proofs.lemmas.Grind.{common_steps}
use Rattle.minutes.specs.Rooted.{plan_of}
use Rattle.minutes.proofs.Reached.{reached}
use Rattle.path.proofs.Climbing.{climbing_start, climbs_on}
use Rattle.path.proofs.walk.climb_steps.Goals as goal

pub loop-plan-init : goal.loop-plan-init
loop-plan-init c = climbing_start _ _ _ _

pub loop-plan-preserved : goal.loop-plan-preserved
loop-plan-preserved c =
    let far : reached (plan_of c.args.tree.now) c.args.earlier c.loop-plan.at ≡ false = grind (arith, common_steps) in
    climbs_on _ c.args.tree.now.plan.accepted _ _ c.requires.earlier_bound c.requires.later_bound _ _ c.loop-plan.invariant _ far c.in_ok-at.ensures
