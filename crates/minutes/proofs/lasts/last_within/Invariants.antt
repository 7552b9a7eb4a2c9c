use Rattle.minutes.specs.Passes.{Quartered}
use Rattle.minutes.proofs.Searching.{Bracket}
use Rattle.minutes.proofs.lasts.last_within.Given as goal

abbrev pub invariant-loop-width : goal.invariant-loop-width
invariant-loop-width l = Bracket l.offsets l.bound l.size l.low l.width × Quartered l.width

abbrev pub decreases-loop-width : goal.decreases-loop-width
decreases-loop-width l = l.width
