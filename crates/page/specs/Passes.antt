-- What is made of a record by itself, from any bytes.
-- Vocabulary: as_one_pair.
use Rattle.std.specs.Prelude.{ℕ, List}
use Rattle.tag.specs.Pairing.{pair_at_answer_of}
use Rattle.page.specs.declared.query.Query.{Query}
use Rattle.page.specs.Page.{with_answer}

-- The record with the answer of a single pair, which asks 9 of the tag file once more.
unfoldable pub as_one_pair : List ℕ → Query → Query
as_one_pair tags query = with_answer query (pair_at_answer_of tags query.first query.second)
