-- Paper 01's plan 12 as bytes: accepted, by computation. And a file for each refusal of a plan.
-- Assumes nothing.
use Prim.Native.Nat.{ℕ}
use mathlib.Core.{Path.◌≡◌, Path.refl, List.List, List.[], List.◌∷◌, List.flat_map}
use Rattle.wire.specs.LittleEndian.{le16, le32, bytes16, bytes32}
use Rattle.refusals.specs.Question.{refusal_by, refusal_about, each}
use Rattle.plan.specs.declared.windows.Window.{Window}
use Rattle.std.specs.Prelude.{Result, Ok, Err}
use Rattle.refusals.specs.declared.refusal.Refusal.{Refusal}
use Rattle.plan.specs.declared.questions.Accepted.{Accepted}
use Rattle.plan.specs.Validation.{accepted_as}
use Rattle.plan.specs.File.{plan_number, window_count, minimum_handover, window_of, window_at, end_of, header_bytes, window_bytes, file_of}
use Rattle.std.specs.Prelude.{Ok, Err}
use Rattle.refusals.specs.Question.{asked_of}
use Rattle.plan.specs.Even.{end_before, even_question, even_questions}
use Rattle.plan.specs.Validation.{offset_before, window_questions, file_questions, plan_questions, validate_answer_of}

abbrev pub window : ℕ → ℕ → Window
window offset length = record { offset = offset; length = length }

-- "Plan 12: (0, 10) (2, 3) (4, 12) (9, 2) (12, 6) (17, 1) (18, 4)."
unfoldable pub file : List ℕ
file = file_of 12 1 (window 0 10 ∷ window 2 3 ∷ window 4 12 ∷ window 9 2 ∷ window 12 6 ∷ window 17 1 ∷ window 18 4 ∷ [])

-- What a computation on the file opens.
unfoldable pub plan_meaning : Unit {0}
unfolding file file_of flat_map header_bytes window_bytes bytes16 bytes32 le16 le32 each plan_number window_count
    minimum_handover window_of window_at end_of offset_before window_questions file_questions plan_questions validate_answer_of
plan_meaning = tt

pub plan_12_accepted : validate_answer_of file ≡ accepted_as 12 7
unfolding plan_meaning
plan_12_accepted = refl

-- Each of questions 1 to 6 by a file that fails it: four bytes; 2,049 windows, also in a short file with minimum 0; a byte too many; a
-- length below the minimum with a falling offset; the sum 4,294,967,296; a falling offset. The second window is refused at position 1.
pub refusals : validate_answer_of (0 ∷ 0 ∷ 0 ∷ 0 ∷ []) ∷ validate_answer_of (0 ∷ 0 ∷ 1 ∷ 8 ∷ 0 ∷ 0 ∷ 0 ∷ 0 ∷ [])
    ∷ validate_answer_of (0 ∷ 0 ∷ 0 ∷ 0 ∷ 1 ∷ 0 ∷ 0 ∷ 0 ∷ 0 ∷ [])
    ∷ validate_answer_of (file_of 0 3 (window 5 5 ∷ window 4 2 ∷ [])) ∷ validate_answer_of (file_of 0 1 (window 4294967295 1 ∷ []))
    ∷ validate_answer_of (file_of 0 1 (window 5 5 ∷ window 4 5 ∷ [])) ∷ [] ≡ Err (refusal_by 1) ∷ Err (refusal_by 2)
    ∷ Err (refusal_by 3) ∷ Err (refusal_about 1 (refusal_by 4)) ∷ Err (refusal_by 5) ∷ Err (refusal_about 1 (refusal_by 6)) ∷ []
unfolding plan_meaning
refusals = refl

-- Question 5 at its edges: the sum 10,000,001, which was too great before Q-8, and 4,294,967,295 pass, of a late window and of a long one;
-- 4,294,967,296 does not, nor do sums that are small in 32 bits; and 4 comes before 5.
abbrev alone : (minimum offset length : ℕ) → Result Accepted Refusal
alone minimum offset length = validate_answer_of (file_of 0 minimum (window offset length ∷ []))

pub ends : alone 1 10000000 1 ∷ alone 1 4294967294 1 ∷ alone 1 0 4294967295 ∷ alone 1 1 4294967295 ∷ alone 1 4294967295 6
    ∷ alone 1 4294967295 4294967295 ∷ alone 7 4294967295 6 ∷ [] ≡ accepted_as 0 1 ∷ accepted_as 0 1 ∷ accepted_as 0 1 ∷ Err (refusal_by 5)
    ∷ Err (refusal_by 5) ∷ Err (refusal_by 5) ∷ Err (refusal_by 4) ∷ []
unfolding plan_meaning
ends = refl

-- Question 14: a minimum of 0, also in a file of the wrong length, and 86,401; 1 and 86,400 pass.
pub minimums : validate_answer_of (0 ∷ 0 ∷ 0 ∷ 0 ∷ 0 ∷ 0 ∷ 0 ∷ 0 ∷ 0 ∷ []) ∷ validate_answer_of (file_of 0 86401 [])
    ∷ validate_answer_of (file_of 0 1 []) ∷ validate_answer_of (file_of 0 86400 []) ∷ []
    ≡ Err (refusal_by 14) ∷ Err (refusal_by 14) ∷ accepted_as 0 0 ∷ accepted_as 0 0 ∷ []
unfolding plan_meaning
minimums = refl

-- Q-2's two windows, (0, 10) (5, 10): "with 11 the first is refused by 4 at position 0."
abbrev pub two : ℕ → List ℕ
two minimum = file_of 0 minimum (window 0 10 ∷ window 5 10 ∷ [])

pub minimum_passed : validate_answer_of (two 6) ∷ validate_answer_of (two 11) ∷ [] ≡ accepted_as 0 2 ∷ Err (refusal_by 4) ∷ []
unfolding plan_meaning
minimum_passed = refl

-- Question 13: window 1 of plan 12 ends before window 0 and is the first that does; equal ends pass; and where two ends fall the
-- first counts, at the later window's position.
pub evenness : asked_of (even_questions file) ∷ asked_of (even_questions (file_of 0 1 (window 0 5 ∷ window 1 4 ∷ window 2 4 ∷ [])))
    ∷ asked_of (even_questions (file_of 0 1 (window 0 5 ∷ window 1 5 ∷ window 2 3 ∷ window 3 1 ∷ []))) ∷ []
    ≡ Err (refusal_about 1 (refusal_by 13)) ∷ Ok tt ∷ Err (refusal_about 2 (refusal_by 13)) ∷ []
unfolding plan_meaning end_before even_question even_questions
evenness = refl

-- Ends are compared as they are, also where 32 bits just hold them: 4,294,967,294 behind 4,294,967,295 falls, and two of these are equal.
pub late_evenness : asked_of (even_questions (file_of 0 1 (window 0 4294967295 ∷ window 1 4294967293 ∷ [])))
    ∷ asked_of (even_questions (file_of 0 1 (window 0 4294967295 ∷ window 4294967294 1 ∷ []))) ∷ []
    ≡ Err (refusal_about 1 (refusal_by 13)) ∷ Ok tt ∷ []
unfolding plan_meaning end_before even_question even_questions
late_evenness = refl
