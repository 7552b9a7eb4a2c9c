-- Paper 01's plan 12 has no short tags, since its window 1 ends before window 0; an even plan of four windows has. Both come out of the
-- definitions by computation, from the files' bytes.
-- Assumes nothing.
use Prim.Native.Nat.{ℕ}
use mathlib.Core.{Path.◌≡◌, Path.refl, List.List, List.[], List.◌∷◌, List.◌++◌}
use Rattle.refusals.specs.Question.{refusal_by, refusal_about}
use Rattle.plan.specs.{declared.windows.Window.Window, File.file_of, Even.end_before, Even.even_question, Even.even_questions}
use Rattle.plan.proofs.Plan12.{file}
use Rattle.tag_bytes.specs.Fields.{short_bytes}
use Rattle.tag_bytes.specs.TagFile.{short_tag_file}
use Rattle.std.specs.Prelude.{Err}
use Rattle.numbering.specs.Numbering.{built_as}
use Rattle.numbering.specs.Tables.{numbers_at}
use Rattle.numbering.proofs.Plan12.{numbered}
use Rattle.even_tags.specs.ShortTags.{short_tags_questions, short_tags_answer_of, after_short_tags}

abbrev window : ℕ → ℕ → Window
window offset length = record { offset = offset; length = length }

-- Ends 4, 6, 9 and 10.
unfoldable pub even : List ℕ
even = file_of 5 1 (window 0 4 ∷ window 2 4 ∷ window 3 6 ∷ window 8 2 ∷ [])

-- What a computation on the file opens.
unfoldable answers : Unit {0}
unfolding numbered even end_before even_question even_questions short_bytes short_tag_file short_tags_questions short_tags_answer_of after_short_tags
answers = tt

-- A table that just holds the tags, and one byte less; 13 comes before 8.
pub even_built : short_tags_answer_of even 32 ∷ short_tags_answer_of even 31 ∷ short_tags_answer_of file 56 ∷ short_tags_answer_of file 0 ∷ []
    ≡ built_as 5 4 1 ∷ Err (refusal_by 8) ∷ Err (refusal_about 1 (refusal_by 13)) ∷ Err (refusal_about 1 (refusal_by 13)) ∷ []
unfolding answers
even_built = refl

-- The bytes: plan number, component, depth and rank of each window.
pub even_tags : short_tag_file (numbers_at even) 4 ≡ (5 ∷ 0 ∷ 0 ∷ 0 ∷ 0 ∷ 0 ∷ 3 ∷ 0 ∷ []) ++ ((5 ∷ 0 ∷ 0 ∷ 0 ∷ 1 ∷ 0 ∷ 0 ∷ 0 ∷ [])
    ++ ((5 ∷ 0 ∷ 0 ∷ 0 ∷ 1 ∷ 0 ∷ 2 ∷ 0 ∷ []) ++ (5 ∷ 0 ∷ 0 ∷ 0 ∷ 2 ∷ 0 ∷ 1 ∷ 0 ∷ [])))
unfolding answers
even_tags = refl

-- What lies past them stays, and a refusal alters nothing.
pub even_after : after_short_tags (built_as 5 1 1) (numbers_at even) (9 ∷ 9 ∷ 9 ∷ 9 ∷ 9 ∷ 9 ∷ 9 ∷ 9 ∷ 9 ∷ []) ∷ after_short_tags (Err (refusal_by 8))
    (numbers_at even) (9 ∷ []) ∷ [] ≡ (5 ∷ 0 ∷ 0 ∷ 0 ∷ 0 ∷ 0 ∷ 3 ∷ 0 ∷ 9 ∷ []) ∷ (9 ∷ []) ∷ []
unfolding answers
even_after = refl
