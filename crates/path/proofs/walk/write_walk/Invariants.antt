use Rattle.std.proofs.Common.{◌≡◌}
use Rattle.sequences.specs.Table.{table, overwritten}
use Rattle.interval_graph.specs.Tree.{ancestor}
use Rattle.overlap.specs.Overlap.{overlaps}
use Rattle.minutes.specs.Rooted.{plan_of}
use Rattle.path.proofs.walk.write_walk.Given as goal

abbrev pub invariant-loop-entry : goal.invariant-loop-entry
invariant-loop-entry l =
    (l.at ≡ ancestor (overlaps (plan_of l.tree)) l.entry-index l.later)
    × (l.entry-items ≡ overwritten l.initial.entry-items (table (λ i. ancestor (overlaps (plan_of l.tree)) i l.later) l.entry-index))
