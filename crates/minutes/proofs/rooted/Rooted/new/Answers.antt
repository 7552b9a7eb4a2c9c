-- The table that the pass leaves holds the parents.
use Rattle.std.proofs.Common.{arith}
use Rattle.sequences.proofs.Table.{overwritten_holds}
use Rattle.plan.proofs.Acceptance.{few_windows}
use Rattle.minutes.proofs.rooted.Rooted.new.Goals as goal

pub invariant_of-result : goal.invariant_of-result
invariant_of-result c =
    record { held = overwritten_holds _ _ _ _ (omega (arith, few_windows _ c.args.plan.accepted, c.find_parents.auto.parents)) c.find_parents.ensures }
