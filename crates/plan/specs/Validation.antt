-- Paper 01, "Questions at the door", 1 to 6, and "Plan file": "A plan is accepted when its file meets no refusal in
-- questions 1 to 6"; with 14 among them, of paper 02, Q-2. Where these crates say "questions 1 to 6" of a plan, 14 is meant too.
-- Vocabulary: greatest_count, greatest_minimum, greatest_end, minimum_passes, offset_before, own_questions, window_questions, asked_with,
-- accepted_as, file_questions, plan_questions, AcceptedPlan, validate_answer_of.
use Rattle.std.specs.Prelude.{ℕ, zero, suc, Bool, true, ◌&&◌, ◌≡◌, List, [], ◌∷◌, ◌++◌, length, leb, eqb, Result, Ok, Err}
use Rattle.refusals.specs.declared.refusal.Refusal.{Refusal}
use Rattle.refusals.specs.Question.{Question, question, each, all_yes, first_no}
use Rattle.plan.specs.declared.windows.Window.{Window}
use Rattle.plan.specs.declared.questions.Accepted.{Accepted}
use Rattle.plan.specs.File.{header_length, file_length, plan_number, window_count, minimum_handover, window_at, end_of}

abbrev pub greatest_count : ℕ
greatest_count = 2048

abbrev pub greatest_minimum : ℕ
greatest_minimum = 86400

-- "Check 5 now lets offset + length reach 4,294,967,295" (paper 02, Q-8).
abbrev pub greatest_end : ℕ
greatest_end = 4294967295

-- "Turned away: 14, a minimum outside 1 to 86,400".
abbrev pub minimum_passes : ℕ → Bool
minimum_passes minimum = leb 1 minimum && leb minimum greatest_minimum

-- The offset of the window before v, or 0 where there is none, which no offset is below.
unfoldable pub offset_before : List ℕ → ℕ → ℕ
offset_before file zero = 0
offset_before file (suc v) = (window_at file v).offset

-- Of a window of a plan with this minimum, by itself:
-- "Every window is at least that long; check 4 now says this" (paper 02, Q-2).
-- "5. Is the true sum offset + length at most" the greatest end?
abbrev pub own_questions : (minimum : ℕ) → Window → List Question
own_questions minimum w = question 4 (leb minimum w.length) ∷ question 5 (leb (end_of w) greatest_end) ∷ []

-- And where the window before it has the offset before: "6. Is the offset at least that of the window before?"
unfoldable pub window_questions : (minimum before : ℕ) → Window → List Question
window_questions minimum before w = own_questions minimum w ++ (question 6 (leb before w.offset) ∷ [])

-- Of the window at a position of a file.
abbrev pub asked_with : (minimum : ℕ) → List ℕ → ℕ → List Question
asked_with minimum file v = window_questions minimum (offset_before file v) (window_at file v)

-- What is said of an accepted plan.
abbrev pub accepted_as : (plan windows : ℕ) → Result Accepted Refusal
accepted_as plan windows = Ok (record { plan = plan; windows = windows })

module _ (file : List ℕ) where
  -- "1. Has the file at least" 8 "bytes?
  --  2. Is n at most 2,048?", "14, …, after 2",
  -- "3. Has the file exactly" 8 "+ 8 × n bytes?" ("1 and 3 count the larger header.")
  unfoldable pub file_questions : List Question
  file_questions =
      question 1 (leb header_length (length file))
      ∷ question 2 (leb (window_count file) greatest_count)
      ∷ question 14 (minimum_passes (minimum_handover file))
      ∷ question 3 (eqb (length file) (file_length (window_count file)))
      ∷ []

  -- "Then, window after window:" 4, 5 and 6.
  unfoldable pub plan_questions : List Question
  plan_questions =
      file_questions ++ each (asked_with (minimum_handover file) file) 0 (window_count file)

  -- The file is that of an accepted plan: none of these questions is answered "no".
  abbrev pub AcceptedPlan : Type 0
  AcceptedPlan = all_yes plan_questions ≡ true

  -- The answer for every file: the first "no", or accepted with the plan number and n.
  unfoldable pub validate_answer_of : Result Accepted Refusal
  validate_answer_of = first_no plan_questions Err (accepted_as (plan_number file) (window_count file))
