use Rattle.std.proofs.Common.{◌-◌}
use Rattle.plan.specs.Plan.{bytes_of}
use Rattle.neighbouring.proofs.Meeting.{Halving}
use Rattle.neighbouring.proofs.spans.last_at.Given as goal

abbrev pub invariant-loop-low : goal.invariant-loop-low
invariant-loop-low l = Halving (bytes_of l.plan) l.at l.low l.high

abbrev pub decreases-loop-low : goal.decreases-loop-low
decreases-loop-low l = l.high - l.low
