-- Paper 01's plan 12, from its bytes: parents and lasts come out of the definitions by computation, a table that just holds them is
-- filled, and one that does not is refused and stays as it was.
-- Assumes nothing.
use Prim.Native.Nat.{ℕ}
use mathlib.Core.{Path.◌≡◌, Path.refl, List.[], List.◌∷◌}
use Rattle.sequences.specs.Table.{table, overwritten}
use Rattle.refusals.specs.Question.{refusal_by, refusal_about}
use Rattle.plan.proofs.Plan12.{file}
use Rattle.overlap.proofs.Plan12.{meaning}
use Rattle.std.specs.Prelude.{Ok, Err}
use Rattle.minutes.specs.Tables.{last_of, parent_of}
use Rattle.plan.specs.{declared.windows.Window.Window, File.file_of, Even.end_before, Even.even_question, Even.even_questions}
use Rattle.minutes.specs.SingleTable.{table_questions, table_answer_of, after_table}
use Rattle.minutes.specs.EvenTable.{even_table_questions, even_table_answer_of}

pub plan_12_found : table (parent_of file) 7 ∷ table (last_of file) 7 ∷ []
    ≡ (0 ∷ 0 ∷ 0 ∷ 0 ∷ 2 ∷ 4 ∷ 6 ∷ []) ∷ (3 ∷ 2 ∷ 4 ∷ 3 ∷ 5 ∷ 5 ∷ 6 ∷ []) ∷ []
unfolding meaning parent_of last_of
plan_12_found = refl

pub plan_12_room : table_answer_of file 7 ∷ table_answer_of file 6 ∷ [] ≡ Ok 7 ∷ Err (refusal_by 8) ∷ []
unfolding meaning table_questions table_answer_of
plan_12_room = refl

pub plan_12_after : after_table (Ok 2) (parent_of file) (9 ∷ 9 ∷ 9 ∷ []) ∷ after_table (Err (refusal_by 8)) (parent_of file) (9 ∷ []) ∷ []
    ≡ (0 ∷ 0 ∷ 9 ∷ []) ∷ (9 ∷ []) ∷ []
unfolding meaning parent_of after_table overwritten
plan_12_after = refl

abbrev window : ℕ → ℕ → Window
window offset length = record { offset = offset; length = length }

-- Plan 12 is refused by 13 before 8; ends 5, 5 and 7 pass 13 and are then asked for room; a falling offset of a later window comes
-- before a falling end.
pub even_first : even_table_answer_of file 0 ∷ even_table_answer_of (file_of 0 1 (window 0 5 ∷ window 1 4 ∷ window 2 5 ∷ [])) 3
    ∷ even_table_answer_of (file_of 0 1 (window 0 5 ∷ window 1 4 ∷ window 2 5 ∷ [])) 2
    ∷ even_table_answer_of (file_of 0 1 (window 1 5 ∷ window 1 4 ∷ window 0 9 ∷ [])) 3 ∷ []
    ≡ Err (refusal_about 1 (refusal_by 13)) ∷ Ok 3 ∷ Err (refusal_by 8) ∷ Err (refusal_about 2 (refusal_by 6)) ∷ []
unfolding meaning end_before even_question even_questions even_table_questions even_table_answer_of
even_first = refl
