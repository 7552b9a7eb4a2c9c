-- Answers from two short tags, and a refusal by each of 9 to 12, come out of the definitions by computation.
-- Assumes nothing.
use Prim.Native.Nat.{ℕ}
use mathlib.Core.{Path.◌≡◌, Path.refl, List.List, List.[], List.◌∷◌, List.◌++◌}
use Rattle.interval_graph.specs.Numbers.{short_between}
use Rattle.refusals.specs.Question.{refusal_by, refusal_from}
use Rattle.tag_bytes.specs.Fields.{short_bytes}
use Rattle.tag.specs.declared.pairs.PairAnswer.TheVariants.{Handovers, NoChain, Refused}
use Rattle.tag.proofs.Plan12 as long
use Rattle.tag.proofs.Plan12.{tag}
use Rattle.short_tag.specs.ShortPairing.{short_pair_answer_of, short_pair_at_answer_of}

-- What a computation on two short tags opens.
unfoldable meaning : Unit {0}
unfolding long.meaning short_between
meaning = tt

-- The short tag with these fields.
unfoldable pub short : ℕ → ℕ → ℕ → ℕ → List ℕ
short plan component depth rank = short_bytes (record { plan = plan; component = component; depth = depth; rank = rank; last = 0 })

-- Of depths 1 and 2: rank u < rank v, D + 1, in either order; rank u > rank v, D; another component; one tag twice.
pub short_answers : short_pair_answer_of (short 5 0 1 0) (short 5 0 2 1) ∷ short_pair_answer_of (short 5 0 2 1) (short 5 0 1 0)
    ∷ short_pair_answer_of (short 5 0 1 2) (short 5 0 2 1) ∷ short_pair_answer_of (short 5 0 1 2) (short 5 1 2 1)
    ∷ short_pair_answer_of (short 5 0 1 2) (short 5 0 1 2) ∷ [] ≡ Handovers 2 ∷ Handovers 2 ∷ Handovers 1 ∷ NoChain ∷ Handovers 0 ∷ []
unfolding meaning short
short_answers = refl

-- A long tag, before a field of 2,048; that alone; another plan, before one rank at two depths; and that alone.
pub short_refusals : short_pair_answer_of (tag 5 0 0 0 0) (short 5 2048 0 0) ∷ short_pair_answer_of (short 5 0 0 0) (short 5 0 0 2048)
    ∷ short_pair_answer_of (short 5 0 0 3) (short 6 0 1 3) ∷ short_pair_answer_of (short 5 0 0 3) (short 5 0 1 3) ∷ [] ≡ Refused (refusal_by 9)
    ∷ Refused (refusal_from 1 (refusal_by 10)) ∷ Refused (refusal_from 1 (refusal_by 11)) ∷ Refused (refusal_from 1 (refusal_by 12)) ∷ []
unfolding meaning short tag
short_refusals = refl

-- From positions of a file of two short tags; ten bytes are no such file, before there is no tag at a position.
pub short_positions : short_pair_at_answer_of (short 5 0 1 0 ++ short 5 0 2 1) 1 0 ∷ short_pair_at_answer_of (short 5 0 1 0 ++ short 5 0 2 1) 2 2
    ∷ short_pair_at_answer_of (short 5 0 1 0 ++ short 5 0 2 1) 1 2 ∷ short_pair_at_answer_of (tag 5 0 1 0 0) 0 2 ∷ []
    ≡ Handovers 2 ∷ Refused (refusal_by 7) ∷ Refused (refusal_from 1 (refusal_by 7)) ∷ Refused (refusal_by 9) ∷ []
unfolding meaning short tag
short_positions = refl
