-- Paper 01's plan 12, by its overlaps, and two windows by their bytes: reach comes out of the definitions by computation. (From plan 12's bytes
-- it does, too, but that takes 12 s: the definition looks at a pair of windows again and again, and each time their minutes are counted.)
-- Assumes nothing.
use Prim.Native.Nat.{ℕ}
use mathlib.Core.{Path.◌≡◌, Path.refl, List.List, List.[], List.◌∷◌}
use Rattle.std.specs.Prelude.{Ok, Err}
use Rattle.interval_graph.specs.{Walk.climb, Walk.walk, Walk.chain_of}
use Rattle.interval_graph.specs.Reach.{handovers_between, in_component, partner, first_with, reach, smaller, larger}
use Rattle.interval_graph.proofs.Plan12.{overlaps, definitions}
use Rattle.refusals.specs.Question.{refusal_by}
use Rattle.plan.specs.File.{file_of}
use Rattle.overlap.proofs.Plan12.{meaning}
use Rattle.reaching.specs.declared.answers.Reach.{Reach}
use Rattle.reaching.specs.Reach.{reach_questions, reach_in, reach_of, reach_answer_of}

abbrev pair : (handovers smaller larger : ℕ) → Reach
pair handovers smaller larger = record { handovers = handovers; smaller = smaller; larger = larger }

-- Q-5: "The cases become 3 for position 0, pair 0 and 5, and 0 for position 6", pair 6 and 6.
pub plan_12_reach : reach_in 7 overlaps 0 ∷ reach_in 7 overlaps 6 ∷ [] ≡ pair 3 0 5 ∷ pair 0 6 6 ∷ []
unfolding definitions climb walk chain_of handovers_between in_component partner first_with reach smaller larger reach_in
plan_12_reach = refl

-- Two windows that share five minutes, by a minimum of five and of six; and there is no third.
abbrev two : ℕ → List ℕ
two minimum = file_of 0 minimum (record { offset = 0; length = 10 } ∷ record { offset = 5; length = 10 } ∷ [])

pub two_windows_reach : reach_answer_of (two 5) 0 ∷ reach_answer_of (two 5) 1 ∷ reach_answer_of (two 6) 0 ∷ reach_answer_of (two 6) 1 ∷
    reach_answer_of (two 6) 2 ∷ []
    ≡ Ok (pair 1 0 1) ∷ Ok (pair 1 0 1) ∷ Ok (pair 0 0 0) ∷ Ok (pair 0 1 1) ∷ Err (refusal_by 7) ∷ []
unfolding definitions meaning climb walk chain_of handovers_between in_component partner first_with reach smaller larger
    reach_questions
    reach_in reach_of reach_answer_of
two_windows_reach = refl
