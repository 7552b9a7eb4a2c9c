-- `changing::places::place_of` meets its contract: when no window is left, what was counted is what stands before the place.
use Rattle.std.proofs.Common.{arith}
use Rattle.plan.specs.File.{window_count}
use Rattle.plan.specs.Plan.{bytes_of}
use Rattle.changing.proofs.Placed.{counted_end}
use Rattle.changing.proofs.places.place_of.Goals as goal

pub returns : goal.returns
returns c = counted_end (bytes_of c.args.plan.now) (window_count (bytes_of c.args.plan.now)) c.args.offset _ c.loop-position.position
    (omega arith) (record { within = omega arith; so_far = c.loop-position.invariant })
