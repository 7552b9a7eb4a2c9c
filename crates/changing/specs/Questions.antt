-- What a change is asked, in turn, and what is answered: 15, an addition to 2,048 windows, comes after the plan's own questions, 16, a new
-- plan number equal to the old, after 15, and then the added window's own 4 and 5, with position 0, or 7 of the position to withdraw; 8 last.
-- Vocabulary: has_place, edit_questions, record_questions, AcceptedChange, both_fit, change_questions, change_answer_of, after_change.
use Rattle.std.specs.Prelude.{ℕ, ◌*◌, Bool, true, not, ◌&&◌, ◌≡◌, List, [], ◌∷◌, ◌++◌, length, ltb, leb, eqb, Result, Ok, Err}
use Rattle.sequences.specs.Table.{overwritten}
use Rattle.refusals.specs.declared.refusal.Refusal.{Refusal}
use Rattle.refusals.specs.Question.{Question, question, position_question, first_no, all_yes}
use Rattle.plan.specs.File.{plan_number, window_count, minimum_handover}
use Rattle.plan.specs.Validation.{greatest_count, own_questions, plan_questions}
use Rattle.tag_bytes.specs.Fields.{tag_length}
use Rattle.numbering.specs.declared.filling.Built.{Built}
use Rattle.numbering.specs.{Tables.component_count, Numbering.built_as}
use Rattle.changing.specs.declared.records.Edit.{Edit}
use Rattle.changing.specs.declared.records.Edit.TheVariants.{Add, Withdraw}
use Rattle.changing.specs.declared.records.Change.{Change}
use Rattle.changing.specs.Change.{changed_file}

-- 15: an addition finds fewer than 2,048 windows.
unfoldable pub has_place : Edit → (windows : ℕ) → Bool
has_place (Add w) windows = ltb windows greatest_count
has_place (Withdraw at) windows = true

-- "The window's own 4 and 5", or 7 of the position to withdraw.
unfoldable pub edit_questions : Edit → (minimum windows : ℕ) → List Question
edit_questions (Add w) minimum windows = own_questions minimum w
edit_questions (Withdraw at) minimum windows = position_question at windows ∷ []

module _ (file : List ℕ) (c : Change) where
  -- What the change itself is asked, "after the plan's checks": 15, 16, and then these.
  unfoldable pub record_questions : List Question
  record_questions =
      question 15 (has_place c.edit (window_count file))
      ∷ question 16 (not (eqb c.plan (plan_number file)))
      ∷ edit_questions c.edit (minimum_handover file) (window_count file)

  -- A change that can be made: none of these questions is answered "no".
  abbrev pub AcceptedChange : Type 0
  AcceptedChange = all_yes (plan_questions file ++ record_questions) ≡ true

  -- "8. Does each table hold what is to be written": the changed plan, and 10 bytes for each of its windows.
  unfoldable pub both_fit : (changed tags : ℕ) → Bool
  both_fit changed tags = leb (length (changed_file file c)) changed && leb (tag_length * window_count (changed_file file c)) tags

  unfoldable pub change_questions : (changed tags : ℕ) → List Question
  change_questions changed tags = plan_questions file ++ (record_questions ++ (question 8 (both_fit changed tags) ∷ []))

  -- The answer for every file, change and buffers: the first "no", or what build answers of the changed plan.
  unfoldable pub change_answer_of : (changed tags : ℕ) → Result Built Refusal
  change_answer_of changed tags =
      first_no (change_questions changed tags) Err
      (built_as (plan_number (changed_file file c)) (window_count (changed_file file c)) (component_count (changed_file file c)))

-- The buffer of the changed plan afterwards, where what is to be written is new; that of the tag file is `after_tags`.
unfoldable pub after_change : Result Built Refusal → (new before : List ℕ) → List ℕ
after_change (Ok whole) new before = overwritten before new
after_change (Err refusal) new before = before
