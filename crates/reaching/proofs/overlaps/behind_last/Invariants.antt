use Rattle.minutes.specs.Rooted.{plan_of}
use Rattle.reaching.proofs.Seeking.{Passing}
use Rattle.reaching.proofs.overlaps.behind_last.Given as goal

abbrev pub invariant-loop-next : goal.invariant-loop-next
invariant-loop-next l = Passing (plan_of l.tree) l.at l.to l.next
