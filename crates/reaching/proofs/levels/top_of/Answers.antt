-- The loop's invariant is `Topping`; the measure is the parent, which each step lowers.
use Rattle.std.proofs.Common.{sym, ◌∙◌, arith}
use Rattle.reaching.proofs.Topping.{topping_start, topping_turn, topping_end}
use Rattle.reaching.proofs.Reached.{given, upward}
use Rattle.reaching.proofs.levels.top_of.Goals as goal

pub loop-up-init : goal.loop-up-init
loop-up-init c = topping_start _ _ (upward _ c.args.tree.now.plan.accepted _ c.parents-parents.ensures _ c.requires.from_bound) _ c.from-up.ensures

pub loop-up-smaller : goal.loop-up-smaller
loop-up-smaller c =
    let le = upward _ c.args.tree.now.plan.accepted _ c.parents-parents.ensures _ c.requires.from_bound c.loop-up.up c.loop-up.invariant.within in
    omega arith

pub loop-up-preserved : goal.loop-up-preserved
loop-up-preserved c =
    topping_turn _ _ (upward _ c.args.tree.now.plan.accepted _ c.parents-parents.ensures _ c.requires.from_bound) _ _ c.loop-up.invariant
    (λ e. c.loop-up-test.true (c.from.ensures ∙ e)) _ c.from-up-in-loop-up.ensures

pub returns-clause-top : goal.returns-clause-top
returns-clause-top c =
    topping_end _ _ (upward _ c.args.tree.now.plan.accepted _ c.parents-parents.ensures _ c.requires.from_bound) _ _ c.loop-up.invariant
    (sym c.from.ensures ∙ c.loop-up-test.false) _ _ (given _ c.args.tree.now.plan.accepted _ c.parents-parents.ensures) c.requires.from_bound
