-- Paper 02, Q-5, of a plan file: the reach of a position's component, with the first pair of windows that has it.
-- Vocabulary: reach_questions, reach_in, reach_as, reach_of, reach_answer_of.
use Rattle.std.specs.Prelude.{ℕ, Bool, List, [], ◌∷◌, ◌++◌, Result, Ok, Err}
use Rattle.interval_graph.specs.Reach.{reach, smaller, larger}
use Rattle.refusals.specs.declared.refusal.Refusal.{Refusal}
use Rattle.refusals.specs.Question.{Question, position_question, first_no}
use Rattle.plan.specs.File.{window_count}
use Rattle.overlap.specs.Overlap.{overlaps}
use Rattle.plan.specs.Validation.{plan_questions}
use Rattle.reaching.specs.declared.answers.Reach.{Reach}

-- Questions 1 to 6, and 7.
unfoldable pub reach_questions : List ℕ → ℕ → List Question
reach_questions file at = plan_questions file ++ (position_question at (window_count file) ∷ [])

-- The greatest number of handovers, the smaller position and the larger.
unfoldable pub reach_in : ℕ → (ℕ → ℕ → Bool) → ℕ → Reach
reach_in n overlap at = record { handovers = reach n overlap at; smaller = smaller n overlap at; larger = larger n overlap at }

-- What is answered of a reach that was found.
abbrev pub reach_as : (handovers smaller larger : ℕ) → Result Reach Refusal
reach_as handovers smaller larger = Ok (record { handovers = handovers; smaller = smaller; larger = larger })

unfoldable pub reach_of : List ℕ → ℕ → Reach
reach_of file at = reach_in (window_count file) (overlaps file) at

unfoldable pub reach_answer_of : List ℕ → ℕ → Result Reach Refusal
reach_answer_of file at = first_no (reach_questions file at) Err (Ok (reach_of file at))
