-- One table of a plan by itself, for calls that need no more: questions 1 to 6, and 8 for the one table.
-- Vocabulary: table_questions, table_answer_of, after_table.
use Rattle.std.specs.Prelude.{ℕ, List, [], ◌∷◌, ◌++◌, Result, Ok, Err}
use Rattle.sequences.specs.Table.{table, overwritten}
use Rattle.refusals.specs.declared.refusal.Refusal.{Refusal}
use Rattle.refusals.specs.Question.{Question, room_question, first_no}
use Rattle.plan.specs.File.{window_count}
use Rattle.plan.specs.Validation.{plan_questions}

-- 8 of "n entries".
unfoldable pub table_questions : List ℕ → (room : ℕ) → List Question
table_questions file room = plan_questions file ++ (room_question (window_count file) room ∷ [])

-- Or the number of windows.
unfoldable pub table_answer_of : List ℕ → (room : ℕ) → Result ℕ Refusal
table_answer_of file room = first_no (table_questions file room) Err (Ok (window_count file))

-- The table afterwards: its first n entries written, or all of it as it was.
unfoldable pub after_table : Result ℕ Refusal → (ℕ → ℕ) → List ℕ → List ℕ
after_table (Ok windows) f before = overwritten before (table f windows)
after_table (Err refusal) f before = before
