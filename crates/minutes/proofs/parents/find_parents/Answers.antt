-- The loop's invariant is `Fingers`, and that the finger has its position's bound.
use Rattle.std.proofs.Common.{◌≡◌, arith, refl}
use Rattle.std.proofs.lemmas.Grind.{common_steps}
use Rattle.sequences.proofs.Table.{filling_start, filling_end}
use Rattle.plan.specs.Plan.{bytes_of}
use Rattle.minutes.specs.Tables.{offset_at}
use Rattle.minutes.proofs.Prepared.{fingers_start, fingers_turn}
use Rattle.minutes.proofs.parents.find_parents.Goals as goal

pub returns-then-len-eq0 : goal.returns-then-len-eq0
returns-then-len-eq0 c = filling_end _ _ _ _ _ (omega arith) (filling_start _ _ _)

pub loop-position-init : goal.loop-position-init
loop-position-init c = (fingers_start _ _ _, c.bound_at-bound.ensures)

pub loop-position-preserved : goal.loop-position-preserved
unfolding offset_at
loop-position-preserved c =
    let read : c.unwrap-offset.result.offset ≡ offset_at (bytes_of c.args.plan.now) c.loop-position.position = grind (arith, common_steps) in (
      fingers_turn (record { accepted = c.args.plan.now.accepted; counted = refl }) _ _ _ _ _ c.requires (omega arith)
          (rw read at c.first_past-finger.ensures.first_past) c.loop-position.invariant.0,
      c.first_past-finger.ensures.bound_after,
    )

pub returns : goal.returns
returns c = filling_end _ _ _ _ _ (omega arith) c.loop-position.invariant.0.filling
