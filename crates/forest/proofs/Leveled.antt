-- What the pass that numbers components and depths needs at a turn, at a root and at a child.
-- Vocabulary: by_level.
-- Assumes nothing.
use Rattle.std.proofs.Common.{◌≡◌, ℕ, ◌+◌, ◌≤◌, ◌<◌, List, ap, sym, arith, add-one}
use Rattle.sequences.specs.Search.{count}
use Rattle.sequences.proofs.Search.{count_le, count_true, count_false}
use Rattle.interval_graph.specs.Forest.{is_root, depth, component}
use Rattle.interval_graph.proofs.Depth.{fixed_root, below_not_root, fixed_is_root, fixed_depth, root_of_parent, depth_step, depth_le}
use Rattle.interval_graph.proofs.Component.{root_component}
use Rattle.forest.specs.Parents.{parent_in}
use Rattle.forest.proofs.Parented.{table_forest}

module _ (parents : List ℕ) (v : ℕ) where
  -- A root begins the next component.
  pub count_root : parent_in parents v ≡ v → count (is_root (parent_in parents)) (v + 1) ≡ count (is_root (parent_in parents)) v + 1
  count_root own = rw (add-one v) (omega (arith, count_true (is_root (parent_in parents)) v (fixed_root (table_forest parents) v own)))

  pub component_of_root : parent_in parents v ≡ v → component (parent_in parents) v ≡ count (is_root (parent_in parents)) v
  unfolding component
  component_of_root own = ap (count (is_root (parent_in parents))) (fixed_is_root (table_forest parents) v own)

  pub depth_of_root : parent_in parents v ≡ v → depth (parent_in parents) v ≡ 0
  depth_of_root own = fixed_depth (table_forest parents) v own

  -- A child is in its parent's, one deeper.
  pub count_child : parent_in parents v < v → count (is_root (parent_in parents)) (v + 1) ≡ count (is_root (parent_in parents)) v
  count_child below = rw (add-one v) (omega (arith, count_false (is_root (parent_in parents)) v (below_not_root (table_forest parents) v below)))

  pub component_of_child : parent_in parents v < v → component (parent_in parents) v ≡ component (parent_in parents) (parent_in parents v)
  component_of_child below = sym (root_component (table_forest parents) (parent_in parents v) v (root_of_parent (table_forest parents) v))

  pub depth_of_child : parent_in parents v < v → depth (parent_in parents) v ≡ depth (parent_in parents) (parent_in parents v) + 1
  depth_of_child below = omega (arith, depth_step (table_forest parents) v below)

  -- Neither number is greater than the position.
  pub roots_few : count (is_root (parent_in parents)) v ≤ v
  roots_few = count_le (is_root (parent_in parents)) v

  pub depth_few : depth (parent_in parents) v ≤ v
  depth_few = depth_le (table_forest parents) v

pub ruleset by_level = (count_root, component_of_root, depth_of_root, count_child, component_of_child, depth_of_child, roots_few, depth_few)
