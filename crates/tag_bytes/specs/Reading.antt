-- Paper 01: "Reading one tag is put to 9 and 10." Paper 02, Q-1: "Checks 8 to 12 apply with eight bytes a tag."
-- Vocabulary: tag_questions, read_questions, read_answer_of, refusal_of; short_read_questions, short_read_answer_of.
use Rattle.std.specs.Prelude.{ℕ, List, [], ◌∷◌, length, eqb, Result, Ok, Err}
use Rattle.interval_graph.specs.Numbers.{Numbers}
use Rattle.refusals.specs.declared.Refusal.{Refusal}
use Rattle.refusals.specs.Question.{Question, refusal_by, refusal_from, question, first_no}
use Rattle.tag_bytes.specs.declared.tag.Tag.{Tag}
use Rattle.tag_bytes.specs.declared.short_tag.ShortTag.{ShortTag}
use Rattle.tag_bytes.specs.Fields.{tag_length, short_length, tag_of, numbers, within_limit, short_tag_of, short_numbers}

-- "9. Has the tag 10 bytes …?
--  10. Is each field after the plan number at most 2,047?", of a tag that is to have so many bytes and whose numbers are n.
abbrev pub tag_questions : (wide : ℕ) → List ℕ → Numbers → List Question
tag_questions wide bytes n = question 9 (eqb (length bytes) wide) ∷ question 10 (within_limit n) ∷ []

abbrev pub read_questions : List ℕ → List Question
read_questions bytes = tag_questions tag_length bytes (numbers (tag_of bytes))

-- The reading of every byte string: the first "no" of an only or first tag, or the tag.
abbrev pub read_answer_of : List ℕ → Result Tag Refusal
read_answer_of bytes = first_no (read_questions bytes) Err (Ok (tag_of bytes))

-- The refusal of a reading, of the input named; zeros where the tag is valid.
abbrev pub refusal_of : {T : Type 0} → Result T Refusal → ℕ → Refusal
refusal_of (Ok t) input = refusal_by 0
refusal_of (Err r) input = refusal_from input r

-- The same of a short tag.
abbrev pub short_read_questions : List ℕ → List Question
short_read_questions bytes = tag_questions short_length bytes (short_numbers (short_tag_of bytes))

abbrev pub short_read_answer_of : List ℕ → Result ShortTag Refusal
short_read_answer_of bytes = first_no (short_read_questions bytes) Err (Ok (short_tag_of bytes))
