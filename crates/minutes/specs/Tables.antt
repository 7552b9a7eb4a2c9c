-- Paper 01, "Tree", of the windows of a plan file: last and parent. The tree itself is defined in `interval_graph`, and the overlap of
-- two windows in `plan`.
-- Vocabulary: offset_at, bound_at, last_of, parent_of.
use Rattle.std.specs.Prelude.{ℕ, List}
use Rattle.interval_graph.specs.Tree.{last, parent}
use Rattle.plan.specs.File.{window_count, minimum_handover, window_at}
use Rattle.overlap.specs.Overlap.{overlaps, bound_of}

module _ (file : List ℕ) where
  unfoldable pub offset_at : ℕ → ℕ
  offset_at v = (window_at file v).offset

  -- What a later window that overlaps the one at v begins before.
  unfoldable pub bound_at : ℕ → ℕ
  bound_at v = bound_of (minimum_handover file) (window_at file v)

  unfoldable pub last_of : ℕ → ℕ
  last_of v = last (window_count file) (overlaps file) v

  unfoldable pub parent_of : ℕ → ℕ
  parent_of v = parent (overlaps file) v
