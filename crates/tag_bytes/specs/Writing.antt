-- Paper 01: "Writing one tag takes the five numbers and fills the first ten bytes of a lent table; it is put to 8 and 10."
-- Vocabulary: put_questions, after_put, write_questions, write_answer_of, after_write; short_write_questions, short_write_answer_of, after_short_write.
use Rattle.std.specs.Prelude.{List, [], ◌∷◌, ℕ, length, Result, Ok, Err}
use Rattle.sequences.specs.Table.{overwritten}
use Rattle.interval_graph.specs.Numbers.{Numbers}
use Rattle.refusals.specs.declared.Refusal.{Refusal}
use Rattle.refusals.specs.Question.{Question, question, room_question, asked_of}
use Rattle.tag_bytes.specs.declared.short_tag.ShortTag.{ShortTag}
use Rattle.tag_bytes.specs.Fields.{tag_length, short_length, tag_bytes, short_numbers, short_bytes, within_limit}

-- "8. Does each table hold what is to be written …?
--  10. Is each field after the plan number at most 2,047?", of a tag that has so many bytes.
abbrev pub put_questions : (wide : ℕ) → Numbers → List ℕ → List Question
put_questions wide n out = room_question wide (length out) ∷ question 10 (within_limit n) ∷ []

-- The table afterwards: "what lies past the written entries stays", and a refusal alters nothing.
abbrev pub after_put : Result (Unit {0}) Refusal → (bytes out : List ℕ) → List ℕ
after_put (Ok tt) bytes out = overwritten out bytes
after_put (Err r) bytes out = out

-- The answer for every five numbers and every table, and the table afterwards.
abbrev pub write_questions : Numbers → List ℕ → List Question
write_questions n out = put_questions tag_length n out

abbrev pub write_answer_of : Numbers → List ℕ → Result (Unit {0}) Refusal
write_answer_of n out = asked_of (write_questions n out)

abbrev pub after_write : Result (Unit {0}) Refusal → Numbers → List ℕ → List ℕ
after_write answer n out = after_put answer (tag_bytes n) out

-- The same for every four numbers (Q-1).
abbrev pub short_write_questions : ShortTag → List ℕ → List Question
short_write_questions t out = put_questions short_length (short_numbers t) out

abbrev pub short_write_answer_of : ShortTag → List ℕ → Result (Unit {0}) Refusal
short_write_answer_of t out = asked_of (short_write_questions t out)

abbrev pub after_short_write : Result (Unit {0}) Refusal → ShortTag → List ℕ → List ℕ
after_short_write answer t out = after_put answer (short_bytes (short_numbers t)) out
