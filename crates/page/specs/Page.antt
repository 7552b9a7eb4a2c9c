-- Paper 02, Q-4: "Fridays bring a few hundred pairs for one plan. They come as a lent list of records, each with two positions and
-- the place for its answer, with the plan's tag file." The record is `Query`.
-- Vocabulary: query_answer_of, query_questions, with_answer, filled, page_answer_of, if_filled, to_fill, after_page.
use Rattle.std.specs.Prelude.{ℕ, List, [], ◌∷◌, ◌++◌, map, Result, Ok, Err}
use Rattle.refusals.specs.declared.Refusal.{Refusal}
use Rattle.refusals.specs.Question.{Question, first_no, asked_of, position_questions}
use Rattle.tag_bytes.specs.TagFile.{tag_count, tag_part, tag_file_question}
use Rattle.tag.specs.declared.pairs.PairAnswer.{PairAnswer}
use Rattle.tag.specs.declared.pairs.PairAnswer.TheVariants.{Refused}
use Rattle.tag.specs.Pairing.{pair_questions, pair_answer_of}
use Rattle.page.specs.declared.query.Query.{Query}

-- "Each record is filled with the refusal by 7 of its first and then its second position, or else with what the pair call says of
-- the two tags found there, refusals included."
unfoldable pub query_answer_of : List ℕ → (first second : ℕ) → PairAnswer
query_answer_of tags first second =
    first_no (position_questions first second (tag_count tags)) Refused (pair_answer_of (tag_part tags first) (tag_part tags second))

-- So these are asked of a record, in this order.
abbrev pub query_questions : List ℕ → (first second : ℕ) → List Question
query_questions tags first second =
    position_questions first second (tag_count tags) ++ pair_questions (tag_part tags first) (tag_part tags second)

-- "Its positions stay."
unfoldable pub with_answer : Query → PairAnswer → Query
with_answer query answer = record { first = query.first; second = query.second; answer = answer }

-- The record filled. What stood in the answer's place is not read.
unfoldable pub filled : List ℕ → Query → Query
filled tags query = with_answer query (query_answer_of tags query.first query.second)

-- "A tag file of wrong length refuses the whole page by 9"
abbrev pub page_answer_of : List ℕ → Result (Unit {0}) Refusal
page_answer_of tags = asked_of (tag_file_question tags ∷ [])

-- "and fills nothing."
abbrev pub if_filled : {A : Type 0} → Result (Unit {0}) Refusal → (done before : A) → A
if_filled (Ok tt) done before = done
if_filled (Err r) done before = before

-- How many of so many records are filled.
abbrev pub to_fill : Result (Unit {0}) Refusal → ℕ → ℕ
to_fill answer records = if_filled answer records 0

-- "A bad record … spoils no other": each record is filled by itself, whatever the others are.
unfoldable pub after_page : Result (Unit {0}) Refusal → List ℕ → List Query → List Query
after_page answer tags queries = if_filled answer (map (filled tags) queries) queries
