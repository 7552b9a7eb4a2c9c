-- Paper 01's plan 12, from its bytes: what build and the tag file alone answer comes out of the definitions by computation, and a
-- refusal leaves a tag file as it was.
-- Assumes nothing.
use mathlib.Core.{Path.◌≡◌, Path.refl, List.[], List.◌∷◌}
use Rattle.refusals.specs.Question.{refusal_by}
use Rattle.plan.proofs.Plan12.{file}
use Rattle.tag_bytes.specs.Fields.{tag_bytes}
use Rattle.tag_bytes.specs.TagFile.{tag_file}
use Rattle.std.specs.Prelude.{Err}
use Rattle.numbering.specs.Numbering.{built_as}
use Rattle.numbering.specs.Tables.{numbers_at}
use Rattle.numbering.proofs.Plan12.{numbered}
use Rattle.tree.specs.Build.{tables_fit, build_questions, build_answer_of, tags_questions, tags_answer_of, after_tags}

-- What a computation on the file opens.
unfoldable answers : Unit {0}
unfolding numbered tag_bytes tag_file tables_fit build_questions build_answer_of tags_questions tags_answer_of after_tags
answers = tt

-- Tables that just hold the windows, and one entry or one byte less.
pub plan_12_built : build_answer_of file 7 7 7 7 7 70 ∷ build_answer_of file 7 7 6 7 7 70 ∷ build_answer_of file 7 7 7 7 7 69 ∷ tags_answer_of file 70 ∷ tags_answer_of
    file 69 ∷ [] ≡ built_as 12 7 2 ∷ Err (refusal_by 8) ∷ Err (refusal_by 8) ∷ built_as 12 7 2 ∷ Err (refusal_by 8) ∷ []
unfolding answers
plan_12_built = refl

-- A refusal alters nothing.
pub plan_12_after : after_tags (Err (refusal_by 8)) (numbers_at file) (9 ∷ []) ≡ 9 ∷ []
unfolding answers
plan_12_after = refl
