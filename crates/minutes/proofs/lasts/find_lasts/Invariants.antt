use Rattle.std.proofs.Common.{◌≡◌}
use Rattle.sequences.specs.Table.{table, overwritten}
use Rattle.plan.specs.Plan.{bytes_of}
use Rattle.minutes.specs.Tables.{last_of}
use Rattle.minutes.proofs.lasts.find_lasts.Given as goal

abbrev pub invariant-loop-position : goal.invariant-loop-position
invariant-loop-position l = l.lasts ≡ overwritten l.fn.lasts (table (last_of (bytes_of l.plan)) l.position)
