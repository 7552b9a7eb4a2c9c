use Prim.Native.Nat.{◌-◌}
use mathlib.Core.Path.{◌≡◌}
use Rattle.plan.specs.Plan.{bytes_of}
use Rattle.minutes.specs.Tables.{bound_at}
use Rattle.minutes.proofs.Searching.{NonePast}
use Rattle.minutes.proofs.parents.first_past.Given as goal

abbrev pub invariant-loop-at : goal.invariant-loop-at
invariant-loop-at l = NonePast (bound_at (bytes_of l.plan)) l.offset l.initial.at l.to l.at × (l.bound ≡ bound_at (bytes_of l.plan) l.at)

abbrev pub decreases-loop-at : goal.decreases-loop-at
decreases-loop-at l = l.to - l.at
