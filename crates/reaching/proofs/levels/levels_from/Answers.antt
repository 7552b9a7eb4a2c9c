-- The loop's invariant is `Levelling`.
use Rattle.std.proofs.Common.{refl, arith}
use Rattle.reaching.proofs.Levelling.{levelling_start, levelling_level, levelling_same, levelling_stops, levelling_ends}
use Rattle.reaching.proofs.Reached.{given, entry_parent, entry_root}
use Rattle.reaching.proofs.levels.levels_from.Goals as goal
use Rattle.reaching.proofs.levels.levels_from.Goals.{then-begins, else-begins}

pub loop-next-init : goal.loop-next-init
loop-next-init c = (refl, levelling_start _ _ _ c.requires.from_bound)

pub returns-in_default : goal.returns-in_default
returns-in_default c =
    let tree = c.args.tree.now in
    let s = c.loop-next in
    levelling_stops _ _ _ _ _ _ s.invariant.1 _ s.invariant.0 (omega arith)
    (entry_root _ tree.plan.accepted _ tree.held _ (omega arith) c.in_default.ensures) _ (given _ tree.plan.accepted _ tree.held) c.requires.spine

pub loop-next-preserved : goal.loop-next-preserved
loop-next-preserved c =
    let tree = c.args.tree.now in
    let s = c.loop-next in
    let entry = entry_parent _ tree.plan.accepted _ tree.held _ _ c.in-Some.ensures in (
      refl,
      elim c.if-begins.branch [
        | then-begins w ↦ rw (w.steps-is, w.first-is)
            (levelling_level _ _ _ _ _ _ s.invariant.1 _ s.invariant.0 (omega arith) (λ e. omega arith) (omega (arith, w.if-begins.true)))
        | else-begins w ↦ rw (w.steps-is, w.first-is)
            (levelling_same _ _ _ _ _ _ s.invariant.1 _ s.invariant.0 (omega arith) (λ e. omega arith) (omega (arith, w.if-begins.false)))
      ],
    )

pub returns : goal.returns
returns c =
    let tree = c.args.tree.now in
    levelling_ends _ _ _ _ _ _ c.loop-next.invariant.1 (omega arith) _ (given _ tree.plan.accepted _ tree.held) c.requires.spine
