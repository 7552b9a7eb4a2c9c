-- Even plans: no end falls from one window to the next. And the pass that asks question 13, before the window at a position.
-- Vocabulary: even_ends, ends_even; Rising, rising_*.
-- Assumes nothing.
use Prim.Native.Nat.{ℕ, zero, suc, ◌+◌, ◌≤◌, ◌<◌}
use mathlib.Core.List.Memᴰ
use mathlib.Core.{Bool.true, Path.◌≡◌, Path.refl, List.List, List.[], List.◌∷◌}
use native.Mathlib.{Omega.arith, Numerals.add-one}
use borrow.Author.Tests.{leb-true, le-leb, lt-leb}
use Rattle.std.specs.Prelude.{Result, Ok, Err}
use Rattle.refusals.specs.declared.refusal.Refusal.{Refusal}
use Rattle.refusals.specs.Question.{Question, refusal_by, refusal_about, all_yes, asked_of}
use Rattle.refusals.proofs.Questions.{Asking, asking_start, asking_turn, asking_refused, asking_end, all_member, all_each, each_all}
use Rattle.plan.specs.declared.windows.Window.{Window}
use Rattle.plan.specs.File.{window_count, window_at, end_of}
use Rattle.plan.specs.Even.{end_before, even_question, even_questions, EvenPlan}

-- The question of each window of a file.
abbrev pub ends_asked : List ℕ → ℕ → List Question
ends_asked file v = even_question (end_before file v) (window_at file v) ∷ []

-- In an even plan no window ends before the one ahead of it.
pub even_ends : (file : List ℕ) → EvenPlan file → (v : ℕ) → suc v < window_count file → end_of (window_at file v) ≤ end_of (window_at file (suc v))
unfolding even_questions even_question end_before
even_ends file even v h =
    leb-true _ _ (all_member (ends_asked file (suc v)) (all_each (ends_asked file) 0 (window_count file) even (suc v) (omega arith) (omega arith))
    _ (Memᴰ.head refl))

-- And a plan of which that holds is even.
pub ends_even : (file : List ℕ) → ((v : ℕ) → suc v < window_count file → end_of (window_at file v) ≤ end_of (window_at file (suc v))) → EvenPlan file
unfolding even_questions even_question end_before
ends_even file rise = each_all (ends_asked file) 0 (window_count file) asked
  where
    asked : (v : ℕ) → 0 ≤ v → v < 0 + window_count file → all_yes (ends_asked file v) ≡ true
    asked zero l h = rw (le-leb 0 (end_of (window_at file 0)) (omega arith))
    asked (suc v) l h = rw (le-leb (end_of (window_at file v)) (end_of (window_at file (suc v))) (rise v (omega arith)))

-- What a window's question is answered.
module _ (before : ℕ) (w : Window) where
  pub ask_13 : end_of w < before → Err (refusal_by 13) ≡ asked_of (even_question before w ∷ [])
  unfolding even_question
  ask_13 falls = rw (lt-leb before (end_of w) falls)

  pub ask_even : before ≤ end_of w → Ok tt ≡ asked_of (even_question before w ∷ [])
  unfolding even_question
  ask_even rises = rw (le-leb before (end_of w) rises)

-- The pass over the windows, before the one at a position: `before` is the end of the window ahead of it.
pub record Rising (file : List ℕ) (before position : ℕ) : Type 0 where
  pub previous : before ≡ end_before file position
  pub asking : Asking {A = Result (Unit {0}) Refusal} (ends_asked file) Err (Ok tt) (window_count file) position

module _ (file : List ℕ) where
  pub rising_start : Rising file 0 0
  unfolding end_before
  rising_start = record { previous = refl; asking = asking_start (ends_asked file) Err (Ok tt) (window_count file) }

  pub rising_end : (before v : ℕ) → window_count file ≤ v → Rising file before v → Ok tt ≡ asked_of (even_questions file)
  unfolding even_questions
  rising_end before v done s = asking_end (ends_asked file) Err (Ok tt) (window_count file) v done s.asking

  module _ (before v end : ℕ) (left : v < window_count file) (s : Rising file before v) (read : end ≡ end_of (window_at file v)) where
    pub rising_turn : before ≤ end → Rising file end (v + 1)
    unfolding end_before
    rising_turn rises =
        record {
          previous = rw (add-one v) read;
          asking = asking_turn (ends_asked file) Err (Ok tt) (window_count file) v left s.asking
              (rw (← s.previous) (ask_even before (window_at file v) (omega (arith, read))));
        }

    pub rising_refused : end < before → Err (refusal_about v (refusal_by 13)) ≡ asked_of (even_questions file)
    unfolding even_questions
    rising_refused falls =
        asking_refused (ends_asked file) Err (Ok tt) (window_count file) v left s.asking (refusal_by 13)
        (rw (← s.previous) (ask_13 before (window_at file v) (omega (arith, read))))
