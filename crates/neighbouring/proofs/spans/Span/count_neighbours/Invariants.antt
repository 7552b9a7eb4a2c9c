use Rattle.std.proofs.Common.{◌≡◌, length}
use Rattle.sequences.specs.Search.{passing}
use Rattle.plan.specs.Plan.{bytes_of}
use Rattle.overlap.specs.Overlap.{overlaps}
use Rattle.neighbouring.proofs.spans.Span.count_neighbours.Given as goal

abbrev pub invariant-loop-position : goal.invariant-loop-position
invariant-loop-position l = l.earlier ≡ length (passing (overlaps (bytes_of l.self.plan) l.self.at) 0 l.position)
