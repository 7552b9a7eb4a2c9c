-- Paper 01's plan 12 as a tag file, and a page over it: counts, no chain, and a position that it has not, first or second, between them.
-- It comes out of the definitions by computation, whatever stood in the answers' places.
-- Assumes nothing.
use Prim.Native.Nat.{ℕ}
use mathlib.Core.{Path.◌≡◌, Path.refl, List.List, List.[], List.◌∷◌, List.◌++◌}
use Rattle.refusals.specs.Question.{refusal_by, refusal_from}
use Rattle.tag_bytes.proofs.Plan12.{tags}
use Rattle.tag.specs.declared.pairs.PairAnswer.{PairAnswer}
use Rattle.tag.specs.declared.pairs.PairAnswer.TheVariants as pair
use Rattle.tag.specs.declared.pairs.PairAnswer.TheVariants.{Handovers, NoChain}
use Rattle.tag.proofs.Plan12 as pairs
use Rattle.tag.proofs.Plan12.{tag}
use Rattle.std.specs.Prelude.{Err}
use Rattle.page.specs.declared.query.Query.{Query}
use Rattle.page.specs.Page.{query_answer_of, with_answer, filled, page_answer_of, to_fill, after_page}

unfoldable pub meaning : Unit {0}
unfolding pairs.meaning query_answer_of with_answer filled after_page
meaning = tt

-- A record with something in the place for its answer.
unfoldable pub query : ℕ → ℕ → PairAnswer → Query
query first second answer = record { first = first; second = second; answer = answer }

unfoldable pub page : List ℕ → List Query → List Query
page file queries = after_page (page_answer_of file) file queries

pub plan_12_page : page tags
    (query 0 5 NoChain ∷ query 7 8 (Handovers 9) ∷ query 5 6 (Handovers 1) ∷ query 0 7 NoChain ∷ query 1 3 NoChain ∷ [])
    ≡ query 0 5 (Handovers 3) ∷ query 7 8 (pair.Refused (refusal_by 7)) ∷ query 5 6 NoChain
    ∷ query 0 7 (pair.Refused (refusal_from 1 (refusal_by 7))) ∷ query 1 3 (Handovers 2) ∷ []
unfolding meaning tags query page
plan_12_page = refl

-- A field of 2,048 in the second tag is found out where it is named, and in that record alone; a third plan's tag is not of that plan.
pub bad_tags : page (tags ++ tag 12 2048 0 0 0 ++ tag 13 0 0 0 0)
    (query 0 7 NoChain ∷ query 7 0 NoChain ∷ query 0 8 NoChain ∷ query 0 5 NoChain ∷ [])
    ≡ query 0 7 (pair.Refused (refusal_from 1 (refusal_by 10))) ∷ query 7 0 (pair.Refused (refusal_by 10))
    ∷ query 0 8 (pair.Refused (refusal_from 1 (refusal_by 11))) ∷ query 0 5 (Handovers 3) ∷ []
unfolding meaning tags tag query page
bad_tags = refl

-- One byte is no tag file: the whole page is refused, and what stood in it stays.
pub refused_page : page_answer_of (0 ∷ []) ≡ Err (refusal_by 9)
unfolding meaning
refused_page = refl

pub left_page : page (0 ∷ []) (query 0 0 (Handovers 9) ∷ []) ≡ query 0 0 (Handovers 9) ∷ []
unfolding meaning query page
left_page = refl

-- No bytes are a tag file of no tags.
pub no_tags : page [] (query 0 0 (Handovers 9) ∷ []) ≡ query 0 0 (pair.Refused (refusal_by 7)) ∷ []
unfolding meaning query page
no_tags = refl

-- All records are to be filled, or none.
pub filled_records : to_fill (page_answer_of tags) 5 ∷ to_fill (page_answer_of (0 ∷ [])) 5 ∷ [] ≡ 5 ∷ 0 ∷ []
unfolding meaning tags
filled_records = refl
