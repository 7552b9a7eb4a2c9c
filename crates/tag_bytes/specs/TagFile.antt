-- Paper 01: "A tag file is the tags of a plan in order of position … Looking up a position hands back that ten-byte part of
-- the caller's tag file. A refused lookup hands back an empty part, and a second call on the same inputs gives the refusal, or
-- says that there is none. A lookup is put only to 9 and 7."
-- Vocabulary: tag_file, tag_count, part_of, tag_part, whole_question, tag_file_question, lookup_in, lookup_questions, lookup_answer_of, part_at,
-- looked_up, lookup_part; short_tag_file.
use Rattle.std.specs.Prelude.{ℕ, ◌*◌, ◌/◌, ◌%◌, length, take, drop, eqb, Result, Ok, Err}
use mathlib.Core.List.{List, [], ◌∷◌, flat_map}
use Rattle.sequences.specs.Table.{table}
use Rattle.interval_graph.specs.Numbers.{Numbers}
use Rattle.refusals.specs.declared.Refusal.{Refusal}
use Rattle.refusals.specs.Question.{Question, question, position_question, asked_of}
use Rattle.tag_bytes.specs.Fields.{tag_length, tag_bytes, short_bytes}

-- The tags of the windows at positions 0 … n - 1, where the one at v has the numbers f v.
unfoldable pub tag_file : (ℕ → Numbers) → ℕ → List ℕ
tag_file f n = flat_map tag_bytes (table f n)

-- "the number of windows is the number of tags"
abbrev pub tag_count : List ℕ → ℕ
tag_count tags = length tags / tag_length

-- "that ten-byte part of the caller's tag file"
abbrev pub part_of : (wide : ℕ) → List ℕ → ℕ → List ℕ
part_of wide tags at = take wide (drop (wide * at) tags)

abbrev pub tag_part : List ℕ → ℕ → List ℕ
tag_part tags at = part_of tag_length tags at

-- "9. Has … the tag file a multiple of 10?"
abbrev pub whole_question : (wide : ℕ) → List ℕ → Question
whole_question wide tags = question 9 (eqb (length tags % wide) 0)

abbrev pub tag_file_question : List ℕ → Question
tag_file_question tags = whole_question tag_length tags

-- "(For a lookup this comes before 7, and the number of windows is the number of tags.)"
abbrev pub lookup_in : (wide : ℕ) → List ℕ → ℕ → List Question
lookup_in wide tags at = whole_question wide tags ∷ position_question at (length tags / wide) ∷ []

abbrev pub lookup_questions : List ℕ → ℕ → List Question
lookup_questions tags at = lookup_in tag_length tags at

-- The refusal, or that there is none, for every tag file and every position.
abbrev pub lookup_answer_of : List ℕ → ℕ → Result (Unit {0}) Refusal
lookup_answer_of tags at = asked_of (lookup_questions tags at)

-- The tag's part of a tag file, and nothing where the lookup is refused.
abbrev pub part_at : (wide : ℕ) → List ℕ → ℕ → Result (Unit {0}) Refusal → List ℕ
part_at wide tags at (Ok tt) = part_of wide tags at
part_at wide tags at (Err r) = []

unfoldable pub looked_up : (wide : ℕ) → List ℕ → ℕ → List ℕ
looked_up wide tags at = part_at wide tags at (asked_of (lookup_in wide tags at))

abbrev pub lookup_part : List ℕ → ℕ → List ℕ
lookup_part tags at = looked_up tag_length tags at

-- Q-1: the short tags of the windows at positions 0 … n - 1.
unfoldable pub short_tag_file : (ℕ → Numbers) → ℕ → List ℕ
short_tag_file f n = flat_map short_bytes (table f n)
