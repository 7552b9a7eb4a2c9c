-- The windows of a plan that overlap one window, as a call answers with them: their positions, rising, without itself, and how many.
-- Vocabulary: neighbours_of, neighbours_questions, neighbours_answer_of, after_neighbours.
use Rattle.std.specs.Prelude.{ℕ, List, [], ◌∷◌, ◌++◌, length, Result, Ok, Err}
use Rattle.sequences.specs.Search.{passing}
use Rattle.sequences.specs.Table.{overwritten}
use Rattle.refusals.specs.declared.refusal.Refusal.{Refusal}
use Rattle.refusals.specs.Question.{Question, position_question, room_question, first_no}
use Rattle.plan.specs.File.{window_count}
use Rattle.overlap.specs.Overlap.{overlaps}
use Rattle.plan.specs.Validation.{plan_questions}

-- The positions of a plan file whose windows overlap the one at a position, rising. (No window overlaps itself.)
unfoldable pub neighbours_of : List ℕ → ℕ → List ℕ
neighbours_of file at = passing (overlaps file at) 0 (window_count file)

-- Questions 1 to 6, 7, and 8, of "the neighbours".
unfoldable pub neighbours_questions : List ℕ → (at room : ℕ) → List Question
neighbours_questions file at room =
    plan_questions file ++ (position_question at (window_count file) ∷ room_question (length (neighbours_of file at)) room ∷ [])

-- The answer for every file, position and table: how many neighbours there are.
unfoldable pub neighbours_answer_of : List ℕ → (at room : ℕ) → Result ℕ Refusal
neighbours_answer_of file at room = first_no (neighbours_questions file at room) Err (Ok (length (neighbours_of file at)))

-- The table afterwards: the neighbours written to its front, or all of it as it was.
unfoldable pub after_neighbours : Result ℕ Refusal → (neighbours before : List ℕ) → List ℕ
after_neighbours (Ok count) neighbours before = overwritten before neighbours
after_neighbours (Err refusal) neighbours before = before
