use Rattle.std.proofs.Common.{◌≡◌}
use Rattle.sequences.specs.Search.{count}
use Rattle.sequences.specs.Table.{table, overwritten}
use Rattle.interval_graph.specs.Forest.{is_root, component, depth}
use Rattle.forest.specs.Parents.{parent_in}
use Rattle.forest.proofs.levels.fill_levels.Given as goal

abbrev pub invariant-loop-position : goal.invariant-loop-position
invariant-loop-position l =
    (l.roots ≡ count (is_root (parent_in l.parents)) l.position)
    × (l.components ≡ overwritten l.fn.components (table (component (parent_in l.parents)) l.position))
    × (l.depths ≡ overwritten l.fn.depths (table (depth (parent_in l.parents)) l.position))
