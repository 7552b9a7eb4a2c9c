-- Paper 02, Q-1: a table of an even plan, from which its short tags are made: questions 1 to 6, then 13, then 8.
-- Vocabulary: even_table_questions, even_table_answer_of.
use Rattle.std.specs.Prelude.{ℕ, List, [], ◌∷◌, ◌++◌, Result, Ok, Err}
use Rattle.refusals.specs.declared.refusal.Refusal.{Refusal}
use Rattle.refusals.specs.Question.{Question, room_question, first_no}
use Rattle.plan.specs.File.{window_count}
use Rattle.plan.specs.Validation.{plan_questions}
use Rattle.plan.specs.Even.{even_questions}

unfoldable pub even_table_questions : List ℕ → (room : ℕ) → List Question
even_table_questions file room = plan_questions file ++ (even_questions file ++ (room_question (window_count file) room ∷ []))

unfoldable pub even_table_answer_of : List ℕ → (room : ℕ) → Result ℕ Refusal
even_table_answer_of file room = first_no (even_table_questions file room) Err (Ok (window_count file))
