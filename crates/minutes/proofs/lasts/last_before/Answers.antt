-- `minutes::lasts::last_before` meets its contract: where the table is filled up from the entry `FEW` on, no offset from there on lies
-- before a bound.
use mathlib.Core.Path.{refl}
use native.Mathlib.Omega.{arith}
use Rattle.minutes.specs.Passes.{fours}
use Rattle.minutes.proofs.lasts.last_before.Goals as goal

pub last_within-requires-clause-quartered : goal.last_within-requires-clause-quartered
unfolding fours
last_within-requires-clause-quartered c = record { rest = 1; times = 4; few = omega arith; whole = refl }

pub last_within-requires-2-clause-quartered : goal.last_within-requires-2-clause-quartered
unfolding fours
last_within-requires-2-clause-quartered c = record { rest = 2; times = 5; few = omega arith; whole = refl }
