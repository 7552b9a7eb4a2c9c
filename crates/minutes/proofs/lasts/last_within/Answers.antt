-- `minutes::lasts::last_within` meets its contract. The loop's invariant is `Bracket`, and that its width can be quartered; the measure is the
-- width.
use Rattle.minutes.proofs.Searching.{quarter_turn, quartered_more}
use Rattle.minutes.proofs.lasts.last_within.Goals as goal

pub loop-width-preserved : goal.loop-width-preserved
loop-width-preserved c =
    let i = c.loop-width.invariant in
    let more = quartered_more c.loop-width.width i.1 c.loop-width-test.true in (
      rw (c.from-first.ensures, c.from-second.ensures, c.from-third.ensures) (quarter_turn _ _ _ _ _ c.requires.sorted (rw more.0 at i.0)),
      more.1,
    )
