-- Paper 02, Q-7: "From a plan and two positions give the smaller end less the greater offset: positive minutes shared, 0 where they touch,
-- and a negative number for the gap. A window with itself gives its length."
-- Vocabulary: margin_of, margin_between, margin_questions, margin_answer_of.
use Rattle.std.specs.Prelude.{ℕ, min, max, List, ◌++◌, ℤ, pos, ◌-ℤ◌, Result, Ok, Err}
use Rattle.refusals.specs.declared.refusal.Refusal.{Refusal}
use Rattle.refusals.specs.Question.{Question, position_questions, first_no}
use Rattle.plan.specs.declared.windows.Window.{Window}
use Rattle.plan.specs.File.{window_count, window_at, end_of}
use Rattle.plan.specs.Validation.{plan_questions}

-- A whole number, which may lie below 0: no difference is cut there. (`pos n` is n as a whole number, and `-ℤ` takes one from another.)
unfoldable pub margin_of : Window → Window → ℤ
margin_of u v = pos (min (end_of u) (end_of v)) -ℤ pos (max u.offset v.offset)

module _ (file : List ℕ) (first second : ℕ) where
  unfoldable pub margin_between : ℤ
  margin_between = margin_of (window_at file first) (window_at file second)

  -- Those of the plan, and then 7 for the two positions.
  unfoldable pub margin_questions : List Question
  margin_questions = plan_questions file ++ position_questions first second (window_count file)

  unfoldable pub margin_answer_of : Result ℤ Refusal
  margin_answer_of = first_no margin_questions Err (Ok margin_between)
