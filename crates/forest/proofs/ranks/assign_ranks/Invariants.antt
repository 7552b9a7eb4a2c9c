use Rattle.forest.specs.Parents.{parent_in}
use Rattle.forest.proofs.Ranking.{Ranked}
use Rattle.forest.proofs.ranks.assign_ranks.Given as goal

abbrev pub invariant-loop-position : goal.invariant-loop-position
invariant-loop-position l = Ranked l.entries (parent_in l.parents) l.initial.next l.initial.ranks l.next l.ranks l.position
