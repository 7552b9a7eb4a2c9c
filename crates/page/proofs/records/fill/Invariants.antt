-- Of the records that are to be filled those before the index are, and the others are as they were.
use Rattle.std.proofs.Common.{◌≡◌}
use Rattle.page.proofs.Filled.{up_to}
use Rattle.page.proofs.records.fill.Given as goal

abbrev pub invariant-loop-record : goal.invariant-loop-record
invariant-loop-record g l = l.record-items ≡ up_to (g.R.Record.filled l.tags) l.record-index l.initial.record-items
