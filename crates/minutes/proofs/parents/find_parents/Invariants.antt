use mathlib.Core.Path.{◌≡◌}
use Rattle.plan.specs.File.{window_count}
use Rattle.plan.specs.Plan.{bytes_of}
use Rattle.minutes.specs.Tables.{bound_at}
use Rattle.minutes.proofs.Prepared.{Fingers}
use Rattle.minutes.proofs.parents.find_parents.Given as goal

abbrev pub invariant-loop-position : goal.invariant-loop-position
invariant-loop-position l = Fingers (bytes_of l.plan) (window_count (bytes_of l.plan)) l.initial.parents l.parents l.finger.at l.position
    × (l.finger.bound ≡ bound_at (bytes_of l.plan) l.finger.at)
