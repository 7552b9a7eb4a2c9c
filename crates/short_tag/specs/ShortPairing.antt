-- Paper 02, Q-1: "reading and answering". "Checks 8 to 12 apply with eight bytes a tag." The rule itself, on numbers, is `short_outcome` of
-- interval_graph, and what is asked of two tags is said in `tag`, over their width.
-- Vocabulary: short_pair_questions, short_pair_answer_of, short_place_questions, short_pair_at_questions, short_pair_at_answer_of.
use Rattle.std.specs.Prelude.{ℕ, List, ◌++◌}
use Rattle.interval_graph.specs.Numbers.{short_between}
use Rattle.refusals.specs.Question.{Question}
use Rattle.tag_bytes.specs.Fields.{short_length, short_tag_of, short_numbers}
use Rattle.tag_bytes.specs.Reading.{short_read_questions}
use Rattle.tag_bytes.specs.TagFile.{part_of}
use Rattle.tag.specs.declared.pairs.PairAnswer.{PairAnswer}
use Rattle.tag.specs.Pairing.{tags_questions, places_in, pair_answer_by, pair_at_by}

-- What is asked of two byte strings, and the answer for every two: the first "no", or what the rule says.
abbrev pub short_pair_questions : List ℕ → List ℕ → List Question
short_pair_questions first second =
    tags_questions (short_read_questions first) (short_read_questions second) (short_numbers (short_tag_of first))
    (short_numbers (short_tag_of second))

abbrev pub short_pair_answer_of : List ℕ → List ℕ → PairAnswer
short_pair_answer_of first second =
    pair_answer_by short_length short_between first second (short_numbers (short_tag_of first)) (short_numbers (short_tag_of second))

-- The same for two positions of a file of short tags.
abbrev pub short_place_questions : List ℕ → (first second : ℕ) → List Question
short_place_questions tags first second = places_in short_length tags first second

abbrev pub short_pair_at_questions : List ℕ → (first second : ℕ) → List Question
short_pair_at_questions tags first second =
    short_place_questions tags first second ++ short_pair_questions (part_of short_length tags first) (part_of short_length tags second)

abbrev pub short_pair_at_answer_of : List ℕ → (first second : ℕ) → PairAnswer
short_pair_at_answer_of tags first second =
    let u = short_numbers (short_tag_of (part_of short_length tags first)) in
    let v = short_numbers (short_tag_of (part_of short_length tags second)) in
    pair_at_by short_length short_between tags first second u v
