-- `forest::lookups::look_up` meets its contract. It is handed the front of the table alone: what is not yet written there is as it was.
use Rattle.std.proofs.Common.{arith}
use Rattle.std.proofs.lemmas.Grind.{common_steps}
use Rattle.std.proofs.lemmas.List.{get_or-take}
use Rattle.sequences.proofs.Table.{by_table, overwritten_front}
use Rattle.forest.proofs.lookups.look_up.Goals as goal

pub loop-place-preserved : goal.loop-place-preserved
loop-place-preserved c = grind (arith, common_steps, by_table, get_or-take)

pub returns : goal.returns
returns c = grind (arith, common_steps, overwritten_front)
