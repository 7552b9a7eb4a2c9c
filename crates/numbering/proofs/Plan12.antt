-- Paper 01's plan 12, from its bytes: its tables, the numbers of its tags and its answers come out of the definitions by computation,
-- and a refusal leaves a table as it was.
-- Assumes nothing.
use mathlib.Core.{Path.◌≡◌, Path.refl, List.[], List.◌∷◌}
use Rattle.sequences.specs.Table.{table, overwritten}
use Rattle.refusals.specs.Question.{refusal_by}
use Rattle.plan.proofs.Plan12.{file}
use Rattle.overlap.proofs.Plan12.{meaning}
use Rattle.minutes.specs.SingleTable.{table_questions}
use Rattle.std.specs.Prelude.{Err}
use Rattle.numbering.specs.Tables.{component_of, depth_of, rank_of, last_rank_of, component_count, numbers_at}
use Rattle.numbering.specs.Numbering.{least_room, built_as, numbers_answer_of, after_build}

-- What a computation on the file opens.
unfoldable pub numbered : Unit {0}
unfolding meaning table_questions overwritten component_of depth_of rank_of last_rank_of component_count numbers_at numbers_answer_of
    after_build
numbered = tt

pub plan_12_tables : table (component_of file) 7 ∷ table (depth_of file) 7 ∷ table (rank_of file) 7 ∷ table (last_rank_of file) 7 ∷ []
    ≡ (0 ∷ 0 ∷ 0 ∷ 0 ∷ 0 ∷ 0 ∷ 1 ∷ []) ∷ (0 ∷ 1 ∷ 1 ∷ 1 ∷ 2 ∷ 3 ∷ 0 ∷ []) ∷ (5 ∷ 0 ∷ 3 ∷ 4 ∷ 2 ∷ 1 ∷ 0 ∷ [])
    ∷ (4 ∷ 3 ∷ 2 ∷ 4 ∷ 1 ∷ 1 ∷ 0 ∷ []) ∷ []
unfolding numbered
plan_12_tables = refl

-- The first tag and the last.
pub plan_12_tags : numbers_at file 0 ∷ numbers_at file 6 ∷ []
    ≡ record { plan = 12; component = 0; depth = 0; rank = 5; last = 4 } ∷ record { plan = 12; component = 1; depth = 0; rank = 0; last = 0 } ∷ []
unfolding numbered
plan_12_tags = refl

-- Tables that just hold the windows, and one that holds one less.
pub plan_12_numbered : numbers_answer_of file (least_room 7 7 7 7 7 7) ∷ numbers_answer_of file (least_room 7 7 7 6 7 7) ∷ []
    ≡ built_as 12 7 2 ∷ Err (refusal_by 8) ∷ []
unfolding numbered
plan_12_numbered = refl

-- What lies past the written entries stays, and a refusal alters nothing.
pub plan_12_after : after_build (built_as 12 2 1) (rank_of file) (9 ∷ 9 ∷ 9 ∷ []) ∷ after_build (Err (refusal_by 8)) (rank_of file) (9 ∷ []) ∷ []
    ≡ (5 ∷ 0 ∷ 9 ∷ []) ∷ (9 ∷ []) ∷ []
unfolding numbered
plan_12_after = refl
