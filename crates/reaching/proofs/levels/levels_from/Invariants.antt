use Rattle.std.proofs.Common.{◌≡◌, ◌+◌}
use Rattle.plan.specs.File.{window_count}
use Rattle.minutes.specs.Rooted.{plan_of}
use Rattle.reaching.proofs.Levelling.{Levelling}
use Rattle.reaching.proofs.levels.levels_from.Given as goal

abbrev pub invariant-loop-next : goal.invariant-loop-next
invariant-loop-next l = (l.next ≡ l.last + 1) × Levelling l.tree.parents.now (window_count (plan_of l.tree)) l.from l.steps l.first l.last
