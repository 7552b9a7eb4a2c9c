use Rattle.minutes.specs.Rooted.{plan_of}
use Rattle.reaching.proofs.Seeking.{Seeking}
use Rattle.reaching.proofs.overlaps.first_apart.Given as goal

abbrev pub invariant-loop-at : goal.invariant-loop-at
invariant-loop-at l = Seeking (plan_of l.tree) l.from l.top l.at
