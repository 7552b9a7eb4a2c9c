-- Paper 01's plan 12 as a tag file: the paper's nine answers from two tags that are looked up, and a refusal by each of 9 to 12 come
-- out of the definitions by computation.
-- Assumes nothing.
use Prim.Native.Nat.{ℕ}
use mathlib.Core.{Path.◌≡◌, Path.refl, List.List, List.[], List.◌∷◌}
use Rattle.refusals.specs.Question.{refusal_by, refusal_from}
use Rattle.tag_bytes.specs.Fields.{tag_bytes}
use Rattle.tag_bytes.specs.TagFile.{lookup_part}
use Rattle.tag_bytes.proofs.Plan12 as bytes
use Rattle.tag_bytes.proofs.Plan12.{tags}
use Rattle.tag.specs.declared.pairs.PairAnswer.{PairAnswer}
use Rattle.tag.specs.declared.pairs.PairAnswer.TheVariants.{Handovers, NoChain, Refused}
use Rattle.tag.specs.Pairing.{agreeing, pair_answer_by, pair_answer_of, pair_at_by, pair_at_answer_of}

-- What a computation on two tags opens.
unfoldable pub meaning : Unit {0}
unfolding bytes.meaning agreeing pair_answer_by pair_at_by
meaning = tt

-- The answer from the two tags that are looked up at two positions.
unfoldable pub answer : ℕ → ℕ → PairAnswer
answer u v = pair_answer_of (lookup_part tags u) (lookup_part tags v)

-- The paper's nine answers.
pub plan_12_answers : answer 0 5 ∷ answer 1 5 ∷ answer 3 5 ∷ answer 2 3 ∷ answer 1 3 ∷ answer 3 4 ∷ answer 4 5 ∷ answer 5 6 ∷ answer 6 6 ∷ []
    ≡ Handovers 3 ∷ Handovers 3 ∷ Handovers 3 ∷ Handovers 1 ∷ Handovers 2 ∷ Handovers 2 ∷ Handovers 1 ∷ NoChain ∷ Handovers 0 ∷ []
unfolding meaning tags answer
plan_12_answers = refl

-- The tag with these fields.
unfoldable pub tag : ℕ → ℕ → ℕ → ℕ → ℕ → List ℕ
tag plan component depth rank last = tag_bytes (record { plan = plan; component = component; depth = depth; rank = rank; last = last })

-- No tag at the position past the last, before a field of 2,048; a field of 2,048 alone; another plan, before one rank at two
-- depths; and that alone.
pub refusals : pair_answer_of (lookup_part tags 7) (tag 12 2048 0 0 0) ∷ pair_answer_of (tag 12 0 0 5 4) (tag 12 0 0 0 2048)
    ∷ pair_answer_of (tag 12 0 0 5 4) (tag 13 0 1 5 4) ∷ pair_answer_of (tag 12 0 0 5 4) (tag 12 0 1 5 4) ∷ [] ≡ Refused (refusal_by 9)
    ∷ Refused (refusal_from 1 (refusal_by 10)) ∷ Refused (refusal_from 1 (refusal_by 11)) ∷ Refused (refusal_from 1 (refusal_by 12)) ∷ []
unfolding meaning tags tag
refusals = refl

-- The same pairs from positions of the tag file: the answers, and no tag at the first position and at the second.
pub plan_12_positions : pair_at_answer_of tags 0 5 ∷ pair_at_answer_of tags 5 6 ∷ pair_at_answer_of tags 7 8 ∷ pair_at_answer_of tags 0 7 ∷ []
    ≡ Handovers 3 ∷ NoChain ∷ Refused (refusal_by 7) ∷ Refused (refusal_from 1 (refusal_by 7)) ∷ []
unfolding meaning tags
plan_12_positions = refl

-- One byte is no tag file, before there is no tag at a position.
pub file_first : pair_at_answer_of (0 ∷ []) 0 0 ≡ Refused (refusal_by 9)
unfolding meaning
file_first = refl
