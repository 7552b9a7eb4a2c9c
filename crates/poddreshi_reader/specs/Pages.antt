-- Q-4's page as it crosses into C: each record's answer is one number.
-- Vocabulary: packed_with, packed_filled, after_packed_page, as_one_packed_pair.
use Rattle.std.specs.Prelude.{ℕ, List, map, Result}
use Rattle.refusals.specs.declared.Refusal.{Refusal}
use Rattle.tag.specs.Pairing.{pair_at_answer_of}
use Rattle.page.specs.Page.{query_answer_of, if_filled}
use Rattle.packing.specs.Packing.{packed_pair}
use Rattle.poddreshi_reader.specs.declared.pages.PackedQuery.{PackedQuery}

-- "Its positions stay."
unfoldable pub packed_with : PackedQuery → ℕ → PackedQuery
packed_with query answer = record { first = query.first; second = query.second; answer = answer }

-- The record filled: the answer of `page` for its positions, packed.
unfoldable pub packed_filled : List ℕ → PackedQuery → PackedQuery
packed_filled tags query = packed_with query (packed_pair (query_answer_of tags query.first query.second))

-- "A tag file of wrong length refuses the whole page by 9 and fills nothing." Else each record is filled by itself.
unfoldable pub after_packed_page : Result (Unit {0}) Refusal → List ℕ → List PackedQuery → List PackedQuery
after_packed_page answer tags queries = if_filled answer (map (packed_filled tags) queries) queries

-- The record with the answer of a single pair, from any bytes: what `answered` makes of one by itself.
unfoldable pub as_one_packed_pair : List ℕ → PackedQuery → PackedQuery
as_one_packed_pair tags query = packed_with query (packed_pair (pair_at_answer_of tags query.first query.second))
