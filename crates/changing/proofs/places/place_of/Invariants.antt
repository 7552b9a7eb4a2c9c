use Rattle.std.proofs.Common.{◌≡◌}
use Rattle.plan.specs.Plan.{bytes_of}
use Rattle.changing.specs.Steps.{place_of}
use Rattle.changing.proofs.places.place_of.Given as goal

abbrev pub invariant-loop-position : goal.invariant-loop-position
invariant-loop-position l = l.place ≡ place_of (bytes_of l.plan) l.position l.offset
