use Rattle.neighbouring.proofs.Meeting.{halving_start, halving_found}
use Rattle.neighbouring.proofs.spans.last_at.Goals as goal

pub loop-low-init : goal.loop-low-init
loop-low-init c = halving_start _ c.args.plan.now.accepted _ c.requires _ c.len-high.ensures.counted

pub returns : goal.returns
returns c = halving_found _ c.args.plan.now.accepted _ c.requires _ _ c.loop-low-test.false c.loop-low.invariant
