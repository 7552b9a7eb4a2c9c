-- What the search finds in a table of the offsets is the last.
use Rattle.std.proofs.Common.{arith}
use Rattle.sequences.proofs.Table.{overwritten_next}
use Rattle.minutes.proofs.Prepared.{prepared_do_not_fall, last_found}
use Rattle.minutes.proofs.lasts.find_lasts.Goals as goal

pub last_before-requires-clause-sorted : goal.last_before-requires-clause-sorted
last_before-requires-clause-sorted c = prepared_do_not_fall c.requires.prepared

pub loop-position-preserved : goal.loop-position-preserved
loop-position-preserved c =
    rw c.loop-position.invariant (overwritten_next _ _ _ _ (omega arith)
    (last_found c.requires.prepared _ _ (omega arith) (rw c.bound_at.ensures at c.last_before.ensures)))
