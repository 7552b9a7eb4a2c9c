-- Paper 01's plan 12, from its bytes: chains come out of the definitions by computation.
-- Assumes nothing.
use mathlib.Core.{Path.◌≡◌, Path.refl, List.[], List.◌∷◌}
use Rattle.interval_graph.specs.Walk.{climb, walk, chain_of}
use Rattle.plan.proofs.Plan12.{file}
use Rattle.overlap.proofs.Plan12.{meaning}
use Rattle.std.specs.Prelude.{Some, None, Ok, Err}
use Rattle.refusals.specs.Question.{refusal_by, refusal_from}
use Rattle.path.specs.Chain.{chain_between, chain_questions, chain_found, chain_in_of, chain_answer_of}

-- What a computation on the file opens.
unfoldable answers : Unit {0}
unfolding meaning climb walk chain_of chain_between chain_questions chain_found chain_in_of chain_answer_of
answers = tt

-- "0 to 5 is 3, chain 5 4 2 0 … 3 to 5 is 3, chain 5 4 2 3 … 1 to 3 is 2, chain 3 0 1 … 5 to 6: no chain."
pub plan_12_chain : chain_between file 0 5 ≡ 5 ∷ 4 ∷ 2 ∷ 0 ∷ []
unfolding answers
plan_12_chain = refl

pub plan_12_chain_across : chain_between file 3 5 ≡ 5 ∷ 4 ∷ 2 ∷ 3 ∷ []
unfolding answers
plan_12_chain_across = refl

pub plan_12_chain_level : chain_between file 1 3 ≡ 3 ∷ 0 ∷ 1 ∷ []
unfolding answers
plan_12_chain_level = refl

-- In a table of four entries, in one of three, of two components, and of a position that the plan does not have.
pub plan_12_answers : (chain_answer_of file 0 5 4 ≡ Ok (Some 4)) × (chain_answer_of file 0 5 3 ≡ Err (refusal_by 8))
    × (chain_answer_of file 5 6 0 ≡ Ok None) × (chain_answer_of file 6 7 9 ≡ Err (refusal_from 1 (refusal_by 7)))
unfolding answers
plan_12_answers = (refl, refl, refl, refl)

-- The same from the plan with its parents.
pub plan_12_chain_in : (chain_in_of file 0 5 4 ≡ Ok (Some 4)) × (chain_in_of file 0 5 3 ≡ Err (refusal_by 8))
    × (chain_in_of file 5 6 0 ≡ Ok None) × (chain_in_of file 6 7 9 ≡ Err (refusal_from 1 (refusal_by 7)))
unfolding answers
plan_12_chain_in = (refl, refl, refl, refl)
