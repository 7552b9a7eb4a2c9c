-- Paper 01's plan 12 and smaller ones, from their bytes: sameness comes out of the definitions by computation.
-- Assumes nothing.
use Prim.Native.Nat.{ℕ}
use mathlib.Core.{Bool.true, Bool.false, Path.◌≡◌, Path.refl, List.[], List.◌∷◌}
use Rattle.std.specs.Prelude.{Ok}
use Rattle.sequences.specs.Search.{every}
use Rattle.plan.specs.declared.windows.Window.{Window}
use Rattle.plan.specs.File.{file_of}
use Rattle.plan.proofs.Plan12.{file}
use Rattle.overlap.proofs.Plan12.{meaning}
use Rattle.sameness.specs.Sameness.{same_pairs, same_overlap, same_questions, same_answer_of}

-- What a computation on the files opens.
unfoldable answers : Unit {0}
unfolding meaning every same_pairs same_overlap same_questions same_answer_of
answers = tt

pub plan_12_same : same_answer_of file file ≡ Ok true
unfolding answers
plan_12_same = refl

-- Two plans with other numbers, minutes and lengths and one overlap, and two with equal lengths and another.
abbrev window : ℕ → ℕ → Window
window offset length = record { offset = offset; length = length }

pub same_by_overlap : (same_answer_of (file_of 1 1 (window 0 11 ∷ window 10 5 ∷ [])) (file_of 2 1 (window 5 5 ∷ window 5 5 ∷ [])) ≡ Ok true)
    × (same_answer_of (file_of 1 1 (window 0 5 ∷ window 5 5 ∷ [])) (file_of 1 1 (window 0 5 ∷ window 4 5 ∷ [])) ≡ Ok false)
unfolding answers
same_by_overlap = (refl, refl)

-- The minimums do not count, and what they make of the windows does: (0, 10) (5, 10) overlap with minimum 5 and not with 6.
pub same_by_minimum : (same_answer_of (file_of 1 5 (window 0 10 ∷ window 5 10 ∷ [])) (file_of 1 1 (window 0 5 ∷ window 4 5 ∷ [])) ≡ Ok true)
    × (same_answer_of (file_of 1 5 (window 0 10 ∷ window 5 10 ∷ [])) (file_of 1 6 (window 0 10 ∷ window 5 10 ∷ [])) ≡ Ok false)
unfolding answers
same_by_minimum = (refl, refl)
