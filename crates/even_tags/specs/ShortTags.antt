-- Paper 02, Q-1: "Add writing all n from a plan". "Checks 8 to 12 apply with eight bytes a tag." "Turned away: 13, … once all have
-- passed 6."
-- Vocabulary: short_tags_questions, short_tags_answer_of, after_short_tags.
use Rattle.std.specs.Prelude.{ℕ, ◌*◌, List, [], ◌∷◌, ◌++◌, Result, Ok, Err}
use Rattle.sequences.specs.Table.{overwritten}
use Rattle.interval_graph.specs.Numbers.{Numbers}
use Rattle.refusals.specs.declared.refusal.Refusal.{Refusal}
use Rattle.refusals.specs.Question.{Question, room_question, first_no}
use Rattle.plan.specs.File.{plan_number, window_count}
use Rattle.plan.specs.Validation.{plan_questions}
use Rattle.plan.specs.Even.{even_questions}
use Rattle.tag_bytes.specs.Fields.{short_length}
use Rattle.tag_bytes.specs.TagFile.{short_tag_file}
use Rattle.numbering.specs.declared.filling.Built.{Built}
use Rattle.numbering.specs.Numbering.{built_as}
use Rattle.numbering.specs.Tables.{component_count}

module _ (file : List ℕ) (room : ℕ) where
  -- 1 to 6, then 13, then 8 of 8 × n bytes.
  unfoldable pub short_tags_questions : List Question
  short_tags_questions = plan_questions file ++ (even_questions file ++ (room_question (short_length * window_count file) room ∷ []))

  unfoldable pub short_tags_answer_of : Result Built Refusal
  short_tags_answer_of = first_no short_tags_questions Err (built_as (plan_number file) (window_count file) (component_count file))

-- The table afterwards: what lies past the written bytes stays, and a refusal alters nothing.
unfoldable pub after_short_tags : Result Built Refusal → (ℕ → Numbers) → List ℕ → List ℕ
after_short_tags (Ok whole) f before = overwritten before (short_tag_file f whole.windows)
after_short_tags (Err refusal) f before = before
