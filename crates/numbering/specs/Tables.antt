-- Paper 01, "Tree", of the windows of a plan file; parent and last are in `minutes`.
-- Vocabulary: component_of, depth_of, rank_of, last_rank_of, component_count, numbers_at.
use Rattle.std.specs.Prelude.{ℕ, List}
use Rattle.sequences.specs.Search.{count}
use Rattle.interval_graph.specs.Tree.{is_root, component, depth, rank, last_rank}
use Rattle.interval_graph.specs.Numbers.{Numbers, numbers_of}
use Rattle.plan.specs.File.{plan_number, window_count}
use Rattle.overlap.specs.Overlap.{overlaps}

module _ (file : List ℕ) where
  unfoldable pub component_of : ℕ → ℕ
  component_of v = component (overlaps file) v

  unfoldable pub depth_of : ℕ → ℕ
  depth_of v = depth (overlaps file) v

  unfoldable pub rank_of : ℕ → ℕ
  rank_of v = rank (window_count file) (overlaps file) v

  unfoldable pub last_rank_of : ℕ → ℕ
  last_rank_of v = last_rank (window_count file) (overlaps file) v

  -- How many components there are: one for each root.
  unfoldable pub component_count : ℕ
  component_count = count (is_root (overlaps file)) (window_count file)

  -- The five numbers of the tag of the window at a position.
  unfoldable pub numbers_at : ℕ → Numbers
  numbers_at v = numbers_of (window_count file) (overlaps file) (plan_number file) v
