-- Questions in turn, by computation: which "no" is the first, of which input, and about which window.
-- Assumes nothing.
use mathlib.Core.{Path.◌≡◌, Path.refl, List.[], List.◌∷◌}
use lib.Dec.{ltb}
use Rattle.std.specs.Prelude.{Ok, Err}
use Rattle.refusals.specs.Question.{refusal_by, refusal_from, refusal_about, question, each, asked_of}
use Rattle.refusals.specs.Question.{position_questions, room_question}

-- What a computation on questions opens.
unfoldable turns : Unit {0}
unfolding each
turns = tt

-- The window at 1 has a "no" to 5 and the one at 2 to 4: window after window, the first of them counts.
pub second_window : asked_of (each (λ v. question 4 (ltb v 2) ∷ question 5 (ltb v 1) ∷ []) 0 3) ≡ Err (refusal_about 1 (refusal_by 5))
unfolding turns
second_window = refl

-- Of two positions past the end the first counts; the second alone is of input 1; and two windows pass.
pub two_positions : asked_of (position_questions 7 7 7) ∷ asked_of (position_questions 6 7 7) ∷ asked_of (position_questions 6 0 7) ∷ []
    ≡ Err (refusal_by 7) ∷ Err (refusal_from 1 (refusal_by 7)) ∷ Ok tt ∷ []
unfolding turns
two_positions = refl

-- Seven entries fit a table of seven, and no table of six.
pub just_room : asked_of (room_question 7 7 ∷ []) ∷ asked_of (room_question 7 6 ∷ []) ∷ [] ≡ Ok tt ∷ Err (refusal_by 8) ∷ []
unfolding turns
just_room = refl
