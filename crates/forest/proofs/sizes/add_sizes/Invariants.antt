use Rattle.forest.specs.Parents.{parent_in}
use Rattle.forest.proofs.Sizing.{Sized}
use Rattle.forest.proofs.sizes.add_sizes.Given as goal

abbrev pub invariant-loop-position : goal.invariant-loop-position
invariant-loop-position l = Sized l.entries (parent_in l.parents) l.sizes l.position
