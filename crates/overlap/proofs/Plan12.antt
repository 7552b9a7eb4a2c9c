-- Paper 01's plan 12: its tree's tables come out of the definitions by computation, from the file's bytes alone. And paper 02's two windows.
-- Assumes nothing.
use mathlib.Core.{Bool.true, Bool.false, Path.◌≡◌, Path.refl, List.[], List.◌∷◌}
use lib.IntN.{pos, negsuc}
use Rattle.sequences.specs.Table.{table}
use Rattle.interval_graph.proofs.Plan12.{definitions, row, listing}
use Rattle.refusals.specs.Question.{refusal_by, refusal_from}
use Rattle.plan.proofs.Plan12.{file, window, two, plan_meaning}
use Rattle.std.specs.Prelude.{Ok, Err}
use Rattle.overlap.specs.Overlap.{covers, shared_minutes, sharing, overlaps, margin_reaches, bound_of}
use Rattle.overlap.specs.Margin.{margin_of, margin_between, margin_questions, margin_answer_of}

-- What a computation on overlap in the file opens.
unfoldable pub meaning : Unit {0}
unfolding definitions plan_meaning covers shared_minutes sharing overlaps
meaning = tt

pub plan_12_tables : table (row (overlaps file)) 7 ≡ listing
unfolding meaning row listing
plan_12_tables = refl

-- "Two windows (0, 10) (5, 10) with minimum 5 overlap, with 6 do not".
pub minimum_reached : overlaps (two 5) 0 1 ∷ overlaps (two 6) 0 1 ∷ [] ≡ true ∷ false ∷ []
unfolding meaning
minimum_reached = refl

-- How overlap is computed says the same, and so does the bound that the searches form.
pub minimum_computed :
    (margin_reaches 5 10 5 ∷ margin_reaches 6 10 5 ∷ [] ≡ true ∷ false ∷ [])
    × (bound_of 1 (window 0 10) ∷ bound_of 5 (window 0 10) ∷ bound_of 10 (window 0 10) ∷ [] ≡ 10 ∷ 6 ∷ 1 ∷ [])
unfolding meaning margin_reaches bound_of
minimum_computed = (refl, refl)

-- The margins of window 0 with itself and the others: 10 is its length, and −8 the gap up to window 6. Windows 4 and 6 touch.
pub plan_12_margins :
    margin_between file 0 0 ∷ margin_between file 0 1 ∷ margin_between file 0 2 ∷ margin_between file 3 0 ∷ margin_between file 0 4
    ∷ margin_between file 6 0 ∷ margin_between file 4 6 ∷ []
    ≡ pos 10 ∷ pos 3 ∷ pos 6 ∷ pos 1 ∷ negsuc 1 ∷ negsuc 7 ∷ pos 0 ∷ []
unfolding meaning margin_of margin_between
plan_12_margins = refl

-- Where ends reach 4,294,967,295 (paper 02, Q-8): the bound is formed of true numbers, by a minimum of 1 and of a day; a window at that end
-- of the line overlaps one that ends with it and touches one that ends where it begins; offset and minimum are added as they are, also
-- where 32 bits do not hold the sum; and margins have their extremes.
pub late_computed :
    (bound_of 1 (window 4294967294 1) ∷ bound_of 86400 (window 4294880895 86400) ∷ [] ≡ 4294967295 ∷ 4294880896 ∷ [])
    × (margin_reaches 1 4294967295 4294967294 ∷ margin_reaches 1 4294967294 4294967294 ∷ margin_reaches 86400 4294967295 4294880895
    ∷ margin_reaches 86400 4294967294 4294880895 ∷ margin_reaches 6 10 4294967295 ∷ [] ≡ true ∷ false ∷ true ∷ false ∷ false ∷ [])
    × (margin_of (window 0 1) (window 4294967294 1) ∷ margin_of (window 0 4294967295) (window 0 4294967295) ∷ []
    ≡ negsuc 4294967292 ∷ pos 4294967295 ∷ [])
unfolding meaning margin_reaches bound_of margin_of
late_computed = (refl, refl, refl)

-- A refusal has the number of its question, and the second position its input; the first is asked about first.
pub plan_12_margin_answers :
    margin_answer_of file 0 4 ∷ margin_answer_of file 7 9 ∷ margin_answer_of file 0 7 ∷ margin_answer_of (two 11) 2 0 ∷ []
    ≡ Ok (negsuc 1) ∷ Err (refusal_by 7) ∷ Err (refusal_from 1 (refusal_by 7)) ∷ Err (refusal_by 4) ∷ []
unfolding meaning margin_of margin_between margin_questions margin_answer_of
plan_12_margin_answers = refl
