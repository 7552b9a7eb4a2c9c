use Rattle.reaching.proofs.Topping.{Topping}
use Rattle.reaching.proofs.levels.top_of.Given as goal

abbrev pub invariant-loop-up : goal.invariant-loop-up
invariant-loop-up l = Topping l.parents l.from l.at l.up

abbrev pub decreases-loop-up : goal.decreases-loop-up
decreases-loop-up l = l.up
