-- Paper 02, Q-1: "A maker with small memory plans so that ends never fall from one window to the next." "Turned away: 13, short tags
-- wanted of a plan where an end falls, at the first window ending before the one ahead of it, once all have passed 6."
-- Vocabulary: end_before, even_question, even_questions, EvenPlan.
use Rattle.std.specs.Prelude.{ℕ, zero, suc, true, ◌≡◌, List, [], ◌∷◌, leb}
use Rattle.refusals.specs.Question.{Question, question, each, all_yes}
use Rattle.plan.specs.declared.windows.Window.{Window}
use Rattle.plan.specs.File.{window_count, window_at, end_of}

-- The end of the window ahead of v, or 0 where there is none, which no end is below.
unfoldable pub end_before : List ℕ → ℕ → ℕ
end_before file zero = 0
end_before file (suc v) = end_of (window_at file v)

-- 13, of a window, where the one ahead of it has the end before: does it end no earlier? Equal ends pass.
unfoldable pub even_question : (before : ℕ) → Window → Question
even_question before w = question 13 (leb before (end_of w))

module _ (file : List ℕ) where
  -- Window after window.
  unfoldable pub even_questions : List Question
  even_questions = each (λ v. even_question (end_before file v) (window_at file v) ∷ []) 0 (window_count file)

  -- No end falls.
  abbrev pub EvenPlan : Type 0
  EvenPlan = all_yes even_questions ≡ true
