-- Paper 01's plan 12 with a window more and with one less, from its bytes: the changed bytes and what is answered come out of the
-- definitions by computation, and each question by a change that fails it.
-- Assumes nothing.
use Prim.Native.Nat.{ℕ}
use mathlib.Core.{Path.◌≡◌, Path.refl, List.List, List.[], List.◌∷◌}
use lib.ListN.{length, take}
use Rattle.std.specs.Prelude.{Ok, Err}
use Rattle.refusals.specs.Question.{refusal_by, asked_of}
use Rattle.plan.specs.declared.windows.Window.{Window}
use Rattle.plan.specs.File.{file_of}
use Rattle.plan.proofs.Plan12.{file}
use Rattle.overlap.proofs.Plan12.{meaning}
use Rattle.numbering.specs.Numbering.{built_as}
use Rattle.numbering.proofs.Plan12.{numbered}
use Rattle.changing.specs.Change.{windows_of, added_place, inserted_at, removed_at, changed_windows, changed_file, adding, withdrawing}
use Rattle.changing.specs.Questions.{has_place, edit_questions, record_questions, both_fit, change_questions, change_answer_of, after_change}

abbrev window : ℕ → ℕ → Window
window offset length = record { offset = offset; length = length }

-- What a computation on the file opens.
unfoldable change : Unit {0}
unfolding numbered meaning windows_of added_place inserted_at removed_at changed_windows changed_file has_place edit_questions record_questions both_fit
    change_questions change_answer_of after_change
change = tt

-- A window (9, 5) goes behind the one at 9. Without position 3 all later ones move up. Number and minimum are the new and the old one.
pub plan_12_changed :
    (windows_of (changed_file file (adding 13 (window 9 5)))
    ≡ window 0 10 ∷ window 2 3 ∷ window 4 12 ∷ window 9 2 ∷ window 9 5 ∷ window 12 6 ∷ window 17 1 ∷ window 18 4 ∷ [])
    × (windows_of (changed_file file (withdrawing 13 3))
    ≡ window 0 10 ∷ window 2 3 ∷ window 4 12 ∷ window 12 6 ∷ window 17 1 ∷ window 18 4 ∷ [])
    × (take 8 (changed_file (file_of 12 5 (window 0 10 ∷ [])) (adding 13 (window 0 5))) ≡ 13 ∷ 0 ∷ 2 ∷ 0 ∷ 5 ∷ 0 ∷ 0 ∷ 0 ∷ [])
unfolding change
plan_12_changed = (refl, refl, refl)

-- The answers have the changed plan's numbers: 8 windows or 6. The buffers just hold what is written, or one byte less.
pub plan_12_answered : change_answer_of file (adding 13 (window 9 5)) 72 80 ∷ change_answer_of file (adding 13 (window 9 5)) 71 80
    ∷ change_answer_of file (adding 13 (window 9 5)) 72 79 ∷ change_answer_of file (withdrawing 13 5) 56 60 ∷ change_answer_of file (withdrawing 13 5) 55 60
    ∷ change_answer_of file (withdrawing 13 5) 56 59 ∷ change_answer_of file (withdrawing 13 6) 56 60 ∷ []
    ≡ built_as 13 8 2 ∷ Err (refusal_by 8) ∷ Err (refusal_by 8) ∷ built_as 13 6 2 ∷ Err (refusal_by 8) ∷ Err (refusal_by 8) ∷ built_as 13 6 1 ∷ []
unfolding change
plan_12_answered = refl

-- 16; the window's own 4 and 5, with position 0; 7; each before 8, and 16 before 4, 5 and 7.
pub plan_12_refused : change_answer_of file (adding 12 (window 9 0)) 0 0 ∷ change_answer_of file (adding 13 (window 9 0)) 0 0
    ∷ change_answer_of (file_of 12 5 []) (adding 13 (window 9 4)) 0 0 ∷ change_answer_of file (adding 13 (window 4294967295 1)) 0 0
    ∷ change_answer_of file (withdrawing 12 7) 0 0 ∷ change_answer_of file (withdrawing 13 7) 0 0 ∷ []
    ≡ Err (refusal_by 16) ∷ Err (refusal_by 4) ∷ Err (refusal_by 4) ∷ Err (refusal_by 5) ∷ Err (refusal_by 16)
    ∷ Err (refusal_by 7) ∷ []
unfolding change
plan_12_refused = refl

-- 15, of a plan that names 2,048 windows: before 16, and not for a withdrawal.
abbrev full : List ℕ
full = 0 ∷ 0 ∷ 0 ∷ 8 ∷ 1 ∷ 0 ∷ 0 ∷ 0 ∷ []

pub full_refused : asked_of (record_questions full (adding 0 (window 0 1))) ∷ asked_of (record_questions full (withdrawing 0 0)) ∷ asked_of (record_questions
    full (withdrawing 1 0)) ∷ [] ≡ Err (refusal_by 15) ∷ Err (refusal_by 16) ∷ Ok tt ∷ []
unfolding change
full_refused = refl

-- A refusal alters nothing, and a change the front alone.
pub plan_12_after : after_change (Err (refusal_by 8)) (1 ∷ []) (9 ∷ 9 ∷ []) ∷ after_change (built_as 13 0 0) (1 ∷ []) (9 ∷ 9 ∷ []) ∷ []
    ≡ (9 ∷ 9 ∷ []) ∷ (1 ∷ 9 ∷ []) ∷ []
unfolding change
plan_12_after = refl
