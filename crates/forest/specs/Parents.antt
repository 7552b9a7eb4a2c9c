-- Tables of parents, as passes read them. Depth, component and rank are those of `interval_graph` for the parent function that a
-- table gives.
-- Vocabulary: parent_in, covered, looked_up.
use Rattle.std.specs.Prelude.{ℕ, min, List, get_or}
use Rattle.plan.specs.Validation.{greatest_count}

-- The parent of v by a table: the entry where that stands before v, and else v, a root. So every table gives a forest.
unfoldable pub parent_in : List ℕ → ℕ → ℕ
parent_in parents v = min (get_or parents v 0) v

-- How many entries a pass goes through: those asked for, but no more than any plan has and no more than either table holds.
abbrev pub covered : (entries first second : ℕ) → ℕ
covered entries first second = min (min (min entries greatest_count) first) second

-- The entry at the place that the k-th entry names; 0 past the end.
abbrev pub looked_up : (from places : List ℕ) → ℕ → ℕ
looked_up from places k = get_or from (get_or places k 0) 0
