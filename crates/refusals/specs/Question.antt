-- Paper 01, "Questions at the door": "Asked in this order, leaving out those that don't fit the call. A 'no' gives
-- the number, the input and the position."
-- Vocabulary: Question, question, from, about, each, first_no, all_yes, asked_of; position_question, position_questions, room_question.
use Rattle.std.specs.Prelude.{ℕ, zero, suc, Bool, true, cond, ◌&&◌, List, [], ◌∷◌, ◌++◌, ltb, leb, Result, Ok, Err}
use Rattle.refusals.specs.declared.refusal.Refusal.{Refusal}

-- A question put to a call's inputs: whether it is answered "yes", and the refusal that a "no" gives.
pub record Question : Type 0 where
  pub yes : Bool
  pub refusal : Refusal

-- A refusal by its question's number, of input 0 and position 0.
abbrev pub refusal_by : ℕ → Refusal
refusal_by number = record { number = number; input = 0; position = 0 }

-- "The input is 1 where the second file, tag or named position is at fault, and for 11 and 12; otherwise it is 0."
abbrev pub refusal_from : ℕ → Refusal → Refusal
refusal_from input r = record { number = r.number; input = input; position = r.position }

-- "The position is that of the file's window being read, and 0 for a question that is not about one such window".
abbrev pub refusal_about : ℕ → Refusal → Refusal
refusal_about position r = record { number = r.number; input = r.input; position = position }

-- A question by its number, of input 0 and position 0.
abbrev pub question : ℕ → Bool → Question
question number passes = record { yes = passes; refusal = refusal_by number }

-- Questions put to an input.
abbrev pub from : ℕ → List Question → List Question
from input [] = []
from input (q ∷ later) = record { yes = q.yes; refusal = refusal_from input q.refusal } ∷ from input later

-- Questions about the window at a position.
abbrev pub about : ℕ → List Question → List Question
about position [] = []
about position (q ∷ later) = record { yes = q.yes; refusal = refusal_about position q.refusal } ∷ about position later

-- "Then, window after window": the questions about each of the k windows from v on.
unfoldable pub each : (ℕ → List Question) → (v k : ℕ) → List Question
each questions v zero = []
each questions v (suc k) = about v (questions v) ++ each questions (suc v) k

-- What a call answers: the refusal of the first question that is answered "no", or what it accepts.
abbrev pub first_no : {A : Type 0} → List Question → (Refusal → A) → A → A
first_no [] refused accepted = accepted
first_no (q ∷ later) refused accepted =
    cond q.yes (first_no later refused accepted) (refused q.refusal)

-- No question is answered "no".
abbrev pub all_yes : List Question → Bool
all_yes [] = true
all_yes (q ∷ later) = q.yes && all_yes later

-- The first "no", or that there is none.
abbrev pub asked_of : List Question → Result (Unit {0}) Refusal
asked_of questions = first_no questions Err (Ok tt)

-- "7. Is each position below the number of windows?"
abbrev pub position_question : (position windows : ℕ) → Question
position_question position windows = question 7 (ltb position windows)

-- "Two named positions are likewise put to their question first and then second; where both are at fault the input is 0."
abbrev pub position_questions : (first second windows : ℕ) → List Question
position_questions first second windows =
    position_question first windows ∷ from 1 (position_question second windows ∷ [])

-- "8. Does each table hold what is to be written (…)?", of so many entries.
abbrev pub room_question : (entries room : ℕ) → Question
room_question entries room = question 8 (leb entries room)
