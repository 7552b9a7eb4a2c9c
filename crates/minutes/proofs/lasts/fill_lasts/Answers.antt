-- The offsets are read into a table that holds every accepted plan's, and then the pass fills its own.
use Rattle.std.proofs.Common.{refl}
use Rattle.plan.proofs.Acceptance.{few_windows}
use Rattle.minutes.proofs.Reading.{prepared_read}
use Rattle.minutes.proofs.lasts.fill_lasts.Goals as goal

pub read_offsets-requires : goal.read_offsets-requires
read_offsets-requires c = few_windows _ c.args.plan.now.accepted

pub find_lasts-requires-clause-prepared : goal.find_lasts-requires-clause-prepared
find_lasts-requires-clause-prepared c = prepared_read _ _ _ (record { accepted = c.args.plan.now.accepted; counted = refl }) c.read_offsets.ensures
