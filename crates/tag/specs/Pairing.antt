-- Paper 01: "From two tags the answer is one of: a number of handovers; no chain; a refusal." The rule itself, on numbers, is
-- `outcome` of interval_graph.
-- Vocabulary: agreeing, compare_questions, tags_questions, pair_questions, answer_of, compared_by, compared_of, pair_answer_by, pair_answer_of, places_in,
-- place_questions, pair_at_questions, pair_at_by, pair_at_answer_of.
use Rattle.std.specs.Prelude.{ℕ, ◌/◌, Bool, true, cond, ◌&&◌, List, [], ◌∷◌, ◌++◌, eqb, length}
use Rattle.interval_graph.specs.Numbers.{Numbers, Outcome, apart, no_chain, equal, outcome_by, between}
use Rattle.refusals.specs.Question.{Question, question, from, first_no, position_questions}
use Rattle.tag.specs.declared.pairs.PairAnswer.{PairAnswer}
use Rattle.tag.specs.declared.pairs.PairAnswer.TheVariants.{Handovers, NoChain, Refused}
use Rattle.tag_bytes.specs.Fields.{tag_length, tag_of, numbers}
use Rattle.tag_bytes.specs.Reading.{tag_questions, read_questions}
use Rattle.tag_bytes.specs.TagFile.{part_of, tag_part, whole_question}

-- "two tags of equal component and equal rank agree in all fields"
unfoldable pub agreeing : Numbers → Numbers → Bool
agreeing u v = cond (eqb u.component v.component && eqb u.rank v.rank) (equal u v) true

-- "11. Have both tags one plan number?
--  12. Do two tags of equal component and equal rank agree in all fields?"
abbrev pub compare_questions : Numbers → Numbers → List Question
compare_questions u v = question 11 (eqb u.plan v.plan) ∷ question 12 (agreeing u v) ∷ []

-- "With two … tags, … 9 and 10, are gone through for the first and then for the second." "The input is 1 where the second …
-- tag … is at fault, and for 11 and 12". What is asked of the reading of either tag, and of their numbers u and v:
abbrev pub tags_questions : (first second : List Question) → (u v : Numbers) → List Question
tags_questions first second u v = first ++ from 1 (second ++ compare_questions u v)

abbrev pub pair_questions : List ℕ → List ℕ → List Question
pair_questions first second =
    tags_questions (read_questions first) (read_questions second) (numbers (tag_of first)) (numbers (tag_of second))

-- What the rule says, as an answer.
abbrev pub answer_of : Outcome → PairAnswer
answer_of (apart count) = Handovers count
answer_of no_chain = NoChain

-- The answer from the numbers of two tags that are both read, by a rule.
unfoldable pub compared_by : (Numbers → Numbers → ℕ) → Numbers → Numbers → PairAnswer
compared_by rule u v = first_no (from 1 (compare_questions u v)) Refused (answer_of (outcome_by rule u v))

abbrev pub compared_of : Numbers → Numbers → PairAnswer
compared_of u v = compared_by between u v

-- The answer for every two byte strings that are to be tags of so many bytes and whose numbers are u and v: the first "no", or what the rule says.
unfoldable pub pair_answer_by : (wide : ℕ) → (Numbers → Numbers → ℕ) → (first second : List ℕ) → (u v : Numbers) → PairAnswer
pair_answer_by wide rule first second u v =
    first_no (tags_questions (tag_questions wide first u) (tag_questions wide second v) u v) Refused (answer_of (outcome_by rule u v))

abbrev pub pair_answer_of : List ℕ → List ℕ → PairAnswer
pair_answer_of first second = pair_answer_by tag_length between first second (numbers (tag_of first)) (numbers (tag_of second))

-- The same for two positions of a tag file: 9 of the file, 7 of the first position and of the second, and then what is asked of the
-- two tags found there.
abbrev pub places_in : (wide : ℕ) → List ℕ → (first second : ℕ) → List Question
places_in wide tags first second = whole_question wide tags ∷ position_questions first second (length tags / wide)

abbrev pub place_questions : List ℕ → (first second : ℕ) → List Question
place_questions tags first second = places_in tag_length tags first second

abbrev pub pair_at_questions : List ℕ → (first second : ℕ) → List Question
pair_at_questions tags first second = place_questions tags first second ++ pair_questions (tag_part tags first) (tag_part tags second)

unfoldable pub pair_at_by : (wide : ℕ) → (Numbers → Numbers → ℕ) → List ℕ → (first second : ℕ) → (u v : Numbers) → PairAnswer
pair_at_by wide rule tags first second u v =
    first_no (places_in wide tags first second
    ++ tags_questions (tag_questions wide (part_of wide tags first) u) (tag_questions wide (part_of wide tags second) v) u v) Refused
    (answer_of (outcome_by rule u v))

abbrev pub pair_at_answer_of : List ℕ → (first second : ℕ) → PairAnswer
pair_at_answer_of tags first second =
    pair_at_by tag_length between tags first second (numbers (tag_of (tag_part tags first))) (numbers (tag_of (tag_part tags second)))
