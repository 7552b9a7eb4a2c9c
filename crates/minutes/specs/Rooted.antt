-- What clauses see of an accepted plan with the parents of its windows: the bytes of its file, the whole table that is lent for the parents,
-- and the parent of each window that has one.
-- Vocabulary: plan_of, table_of, with_parents, above.
use Rattle.std.specs.Prelude.{ℕ, List, Option, Some, None, cond, ltb, ◌&&◌}
use Rattle.sequences.specs.Table.{table, overwritten}
use Rattle.plan.specs.File.{window_count}
use Rattle.minutes.specs.Tables.{parent_of}
use Rattle.minutes.specs.declared.rooted.Rooted.{Rooted}

abbrev pub plan_of : Rooted → List ℕ
plan_of rooted = rooted.plan.file.now

abbrev pub table_of : Rooted → List ℕ
table_of rooted = rooted.parents.now

-- The lent table once the parents are found: behind them is what stood there.
abbrev pub with_parents : List ℕ → List ℕ → List ℕ
with_parents file before = overwritten before (table (parent_of file) (window_count file))

-- The parent of a window that has one.
abbrev pub above : List ℕ → ℕ → Option ℕ
above file v = cond (ltb v (window_count file) && ltb (parent_of file v) v) (Some (parent_of file v)) None
