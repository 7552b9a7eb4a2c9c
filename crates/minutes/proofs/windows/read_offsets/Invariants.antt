use Rattle.std.proofs.Common.{◌≡◌}
use Rattle.sequences.specs.Table.{table, overwritten}
use Rattle.plan.specs.Plan.{bytes_of}
use Rattle.minutes.specs.Tables.{offset_at}
use Rattle.minutes.proofs.windows.read_offsets.Given as goal

abbrev pub invariant-loop-position : goal.invariant-loop-position
invariant-loop-position l = l.offsets ≡ overwritten l.fn.offsets (table (offset_at (bytes_of l.plan)) l.position)
