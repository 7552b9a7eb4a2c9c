use Rattle.plan.specs.File.{window_count}
use Rattle.overlap.specs.Overlap.{overlaps}
use Rattle.minutes.specs.Rooted.{plan_of}
use Rattle.path.proofs.Climbing.{Climbing}
use Rattle.path.proofs.walk.climb_steps.Given as goal

abbrev pub invariant-loop-plan : goal.invariant-loop-plan
invariant-loop-plan l = Climbing (window_count (plan_of l.tree)) (overlaps (plan_of l.tree)) l.earlier l.later l.at l.steps

abbrev pub decreases-loop-plan : goal.decreases-loop-plan
decreases-loop-plan l = l.at
