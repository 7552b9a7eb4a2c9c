-- Paper 01, "Calls on a plan": "Build writes five tables of two-byte numbers (parent, component, depth, rank, rank of the last)
-- and the tag file."
-- Vocabulary: tables_fit, build_questions, build_answer_of, tags_questions, tags_answer_of, after_tags.
use Rattle.std.specs.Prelude.{ℕ, ◌*◌, Bool, ◌&&◌, List, [], ◌∷◌, ◌++◌, leb, Result, Ok, Err}
use Rattle.sequences.specs.Table.{overwritten}
use Rattle.interval_graph.specs.Numbers.{Numbers}
use Rattle.refusals.specs.declared.refusal.Refusal.{Refusal}
use Rattle.refusals.specs.Question.{Question, question, room_question, first_no}
use Rattle.plan.specs.File.{plan_number, window_count}
use Rattle.plan.specs.Validation.{plan_questions}
use Rattle.tag_bytes.specs.Fields.{tag_length}
use Rattle.tag_bytes.specs.TagFile.{tag_file}
use Rattle.numbering.specs.declared.filling.Built.{Built}
use Rattle.numbering.specs.Numbering.{built_as}
use Rattle.numbering.specs.Tables.{component_count}

-- "8. Does each table hold what is to be written (n entries; 10 × n bytes …)?" by how many entries each of the five tables holds
-- and how many bytes the tag file.
unfoldable pub tables_fit : (windows parents components depths ranks last_ranks tags : ℕ) → Bool
tables_fit windows parents components depths ranks last_ranks tags =
    leb windows parents
    && (leb windows components
    && (leb windows depths
    && (leb windows ranks
    && (leb windows last_ranks
    && leb (tag_length * windows) tags))))

module _ (file : List ℕ) (parents components depths ranks last_ranks tags : ℕ) where
  unfoldable pub build_questions : List Question
  build_questions =
      plan_questions file ++ (question 8 (tables_fit (window_count file) parents components depths ranks last_ranks tags) ∷ [])

  unfoldable pub build_answer_of : Result Built Refusal
  build_answer_of = first_no build_questions Err (built_as (plan_number file) (window_count file) (component_count file))

-- The same for callers who want the tag file alone: 8 of "10 × n bytes".
module _ (file : List ℕ) (room : ℕ) where
  unfoldable pub tags_questions : List Question
  tags_questions = plan_questions file ++ (room_question (tag_length * window_count file) room ∷ [])

  unfoldable pub tags_answer_of : Result Built Refusal
  tags_answer_of = first_no tags_questions Err (built_as (plan_number file) (window_count file) (component_count file))

-- The tag file afterwards; each table is `after_build`.
unfoldable pub after_tags : Result Built Refusal → (ℕ → Numbers) → List ℕ → List ℕ
after_tags (Ok whole) f before = overwritten before (tag_file f whole.windows)
after_tags (Err refusal) f before = before
