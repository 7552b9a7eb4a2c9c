use Rattle.std.proofs.Common.{◌≡◌, take}
use Rattle.sequences.specs.Table.{table, overwritten}
use Rattle.forest.specs.Parents.{looked_up}
use Rattle.forest.proofs.lookups.look_up.Given as goal

abbrev pub invariant-loop-place : goal.invariant-loop-place
invariant-loop-place l = l.place-items ≡ overwritten (take l.end l.fn.places) (table (looked_up l.from l.fn.places) l.place-index)
