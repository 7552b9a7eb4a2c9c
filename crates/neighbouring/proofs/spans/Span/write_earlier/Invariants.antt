use Rattle.std.proofs.Common.{◌≡◌, length}
use Rattle.sequences.specs.Search.{passing}
use Rattle.sequences.specs.Table.{overwritten}
use Rattle.plan.specs.Plan.{bytes_of}
use Rattle.overlap.specs.Overlap.{overlaps}
use Rattle.neighbouring.proofs.spans.Span.write_earlier.Given as goal

abbrev pub invariant-loop-position : goal.invariant-loop-position
invariant-loop-position l =
    (l.found ≡ length (passing (overlaps (bytes_of l.self.plan) l.self.at) 0 l.position))
    × (l.out ≡ overwritten l.fn.out (passing (overlaps (bytes_of l.self.plan) l.self.at) 0 l.position))
