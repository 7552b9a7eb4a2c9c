use Rattle.std.proofs.Common.{◌≡◌, ◌+◌}
use Rattle.sequences.specs.Table.{table}
use Rattle.wire.specs.LittleEndian.{placed}
use Rattle.neighbouring.proofs.spans.write_run.Given as goal

abbrev pub invariant-loop-step : goal.invariant-loop-step
invariant-loop-step l = l.out ≡ placed l.fn.out l.written (table (λ i. l.from + i) l.step)
