-- Paper 01's plan 12, from its bytes: neighbours come out of the definitions by computation.
-- Assumes nothing.
use mathlib.Core.{Path.◌≡◌, Path.refl, List.[], List.◌∷◌}
use Rattle.std.specs.Prelude.{Ok}
use Rattle.sequences.specs.Search.{passing}
use Rattle.plan.proofs.Plan12.{file}
use Rattle.overlap.proofs.Plan12.{meaning}
use Rattle.neighbouring.specs.Neighbours.{neighbours_of, neighbours_questions, neighbours_answer_of}

pub plan_12_neighbours : (neighbours_of file 2 ≡ 0 ∷ 1 ∷ 3 ∷ 4 ∷ []) × (neighbours_of file 6 ≡ []) × (neighbours_answer_of file 2 4 ≡ Ok 4)
unfolding meaning passing neighbours_of neighbours_questions neighbours_answer_of
plan_12_neighbours = (refl, refl, refl)
