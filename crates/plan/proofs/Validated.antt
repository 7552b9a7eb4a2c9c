-- Laws of questions 1 to 6 and 14: what each answer of `validate` shows, over plain numbers and lists.
-- Vocabulary: window_at_lem, ask_*, refused_*, windows_answer, Passed, passed_*.
-- Assumes nothing.
use Prim.Native.Nat.{ℕ, ◌+◌, ◌-◌, ◌≤◌, ◌<◌}
use mathlib.Core.{Bool.true, Bool.false, Path.◌≡◌, Path.refl, Path.sym, Path.ap, Path.◌∙◌, List.List, List.[], List.◌∷◌}
use native.Mathlib.{Nat.add-sub_cancel_left, Numerals.add-one}
use lib.{ListN.length, ListN.take, ListN.drop, Dec.leb}
use borrow.Author.Tests.{le-leb, lt-leb, eq-eqb, ne_eqb}
use Rattle.refusals.specs.declared.refusal.Refusal.{Refusal}
use Rattle.refusals.specs.Question.{Question, refusal_by, refusal_about, question, each, first_no, asked_of}
use Rattle.refusals.proofs.Questions.{first_yes, first_no_lem, asked_refused, asked_passed, Asking, asking_start, asking_turn, asking_refused, asking_end}
use Rattle.plan.specs.declared.windows.Window.{Window}
use Rattle.std.specs.Prelude.{Result, Ok, Err}
use Rattle.plan.specs.declared.questions.Accepted.{Accepted}
use Rattle.plan.specs.Validation.{accepted_as}
use Rattle.plan.specs.File.{header_length, window_length, file_length, window_place, plan_number, window_count, minimum_handover}
use Rattle.plan.specs.File.{window_of, window_at, end_of}
use Rattle.plan.specs.Validation.{greatest_count, greatest_end, minimum_passes, offset_before, own_questions, window_questions, asked_with}
use Rattle.plan.specs.Validation.{file_questions, plan_questions, validate_answer_of}

-- The window in the eight-byte part from the middle of the file is the window at its position.
pub window_at_lem : (file : List ℕ) (v place : ℕ) (w : Window) → place ≡ window_place v →
    w ≡ window_of (take (place + window_length - place) (drop place file)) → w ≡ window_at file v
unfolding window_at
window_at_lem file v place w here e = rw (here, add-sub_cancel_left (window_place v) window_length) at e

-- Which of a window's own two questions is the first "no".
module _ (minimum : ℕ) (w : Window) where
  pub ask_4 : w.length < minimum → Err (refusal_by 4) ≡ asked_of (own_questions minimum w)
  ask_4 short = rw (lt-leb minimum w.length short)

  pub ask_5 : minimum ≤ w.length → greatest_end < end_of w → Err (refusal_by 5) ≡ asked_of (own_questions minimum w)
  ask_5 long late = rw (le-leb minimum w.length long, lt-leb (end_of w) greatest_end late)

  pub ask_neither : minimum ≤ w.length → end_of w ≤ greatest_end → Ok tt ≡ asked_of (own_questions minimum w)
  ask_neither long early = rw (le-leb minimum w.length long, le-leb (end_of w) greatest_end early)

-- And of all three, by what was answered to these two.
module _ (minimum before : ℕ) (w : Window) (own : Result (Unit {0}) Refusal) (answered : own ≡ asked_of (own_questions minimum w)) where
  pub ask_own_no : (r : Refusal) → own ≡ Err r → Err r ≡ asked_of (window_questions minimum before w)
  unfolding window_questions
  ask_own_no r e = asked_refused (own_questions minimum w) (question 6 (leb before w.offset) ∷ []) Err (Ok tt) own answered r e

  pub ask_6 : own ≡ Ok tt → w.offset < before → Err (refusal_by 6) ≡ asked_of (window_questions minimum before w)
  unfolding window_questions
  ask_6 e falls =
      let q = question 6 (leb before w.offset) in
      sym (first_no_lem [] Err (Ok tt) q (lt-leb before w.offset falls))
      ∙ asked_passed (own_questions minimum w) (q ∷ []) Err (Ok tt) own answered e

  pub ask_none : own ≡ Ok tt → before ≤ w.offset → Ok tt ≡ asked_of (window_questions minimum before w)
  unfolding window_questions
  ask_none e sorted =
      let q = question 6 (leb before w.offset) in
      sym (first_yes [] Err (Ok tt) q (le-leb before w.offset sorted))
      ∙ asked_passed (own_questions minimum w) (q ∷ []) Err (Ok tt) own answered e

abbrev pub windows_asked : List ℕ → ℕ → List Question
windows_asked file = asked_with (minimum_handover file) file

-- The questions of the file as a whole, where n is the number of windows that it names, and then its minimum.
module _ (file : List ℕ) (n : ℕ) (named : n ≡ window_count file) (header : header_length ≤ length file) where
  pub refused_2 : greatest_count < n → Err (refusal_by 2) ≡ validate_answer_of file
  unfolding validate_answer_of plan_questions file_questions
  refused_2 many = rw (← named, le-leb header_length (length file) header, lt-leb n greatest_count many)

  module _ (few : n ≤ greatest_count) (minimum : ℕ) (read : minimum ≡ minimum_handover file) where
    pub refused_14 : minimum_passes minimum ≡ false → Err (refusal_by 14) ≡ validate_answer_of file
    unfolding validate_answer_of plan_questions file_questions
    refused_14 fails = rw (← named, ← read, le-leb header_length (length file) header, le-leb n greatest_count few, fails)

    module _ (passes : minimum_passes minimum ≡ true) where
      pub refused_3 : (length file ≡ file_length n → ⊥) → Err (refusal_by 3) ≡ validate_answer_of file
      unfolding validate_answer_of plan_questions file_questions
      refused_3 other =
          rw (← named, ← read, le-leb header_length (length file) header, le-leb n greatest_count few, passes, ne_eqb (length file) (file_length n) other)

      -- Where they are all answered "yes", those of the windows give the answer.
      pub windows_answer : (plan : ℕ) → plan ≡ plan_number file → length file ≡ file_length n → (answer : Result Accepted Refusal) →
          answer ≡ first_no (each (asked_with minimum file) 0 n) Err (accepted_as plan n) → answer ≡ validate_answer_of file
      unfolding validate_answer_of plan_questions file_questions
      windows_answer plan number whole answer e =
          rw (
            ← named,
            ← read,
            ← number,
            le-leb header_length (length file) header,
            le-leb n greatest_count few,
            passes,
            eq-eqb (length file) (file_length n) whole,
          ) e

pub refused_1 : (file : List ℕ) → length file < header_length → Err (refusal_by 1) ≡ validate_answer_of file
unfolding validate_answer_of plan_questions file_questions
refused_1 file short = rw (lt-leb header_length (length file) short)

-- The pass over the windows, before the window at a position: `before` is the offset of the window before it.
pub record Passed (file : List ℕ) (minimum plan windows before position : ℕ) : Type 0 where
  pub previous : before ≡ offset_before file position
  pub asking : Asking (asked_with minimum file) Err (accepted_as plan windows) windows position

module _ (file : List ℕ) (minimum plan windows : ℕ) where
  pub passed_start : Passed file minimum plan windows 0 0
  unfolding offset_before
  passed_start = record { previous = refl; asking = asking_start (asked_with minimum file) Err (accepted_as plan windows) windows }

  pub passed_end : (before v : ℕ) → windows ≤ v → Passed file minimum plan windows before v →
      accepted_as plan windows ≡ first_no (each (asked_with minimum file) 0 windows) Err (accepted_as plan windows)
  passed_end before v done s = asking_end (asked_with minimum file) Err (accepted_as plan windows) windows v done s.asking

  module _ (before v : ℕ) (w : Window) (left : v < windows) (s : Passed file minimum plan windows before v) (read : w ≡ window_at file v) where
    pub passed_turn : Ok tt ≡ asked_of (window_questions minimum before w) → Passed file minimum plan windows w.offset (v + 1)
    unfolding offset_before
    passed_turn h =
        record {
          previous = rw (add-one v) (ap (λ (x : Window). x.offset) read);
          asking = asking_turn (asked_with minimum file) Err (accepted_as plan windows) windows v left s.asking (rw (← s.previous, ← read) h);
        }

    pub passed_refused : (r : Refusal) → Err r ≡ asked_of (window_questions minimum before w) →
        Err (refusal_about v r) ≡ first_no (each (asked_with minimum file) 0 windows) Err (accepted_as plan windows)
    passed_refused r h =
        asking_refused (asked_with minimum file) Err (accepted_as plan windows) windows v left s.asking r (rw (← s.previous, ← read) h)
