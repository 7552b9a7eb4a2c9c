-- The answer of `chain` where a position is refused, over plain numbers and lists.
-- Assumes nothing.
use Prim.Native.Nat.{ℕ}
use mathlib.Core.{Path.◌≡◌, Path.sym, Path.◌∙◌, List.List, List.[], List.◌∷◌}
use lib.ListN.{length}
use Rattle.std.specs.Prelude.{Result, Err}
use Rattle.refusals.specs.declared.refusal.Refusal.{Refusal}
use Rattle.refusals.specs.Question.{asked_of, position_questions, room_question}
use Rattle.refusals.proofs.Questions.{asked_refused}
use Rattle.plan.specs.AcceptedWindows.{AcceptedWindows}
use Rattle.plan.proofs.Calls.{plan_passed}
use Rattle.path.specs.Chain.{chain_between, chain_questions, chain_found, chain_answer_of}

-- Of a plan that is accepted, the answer is the refusal by 7.
module _ (file : List ℕ) (first second room : ℕ) {windows : ℕ} (p : AcceptedWindows file windows)
    (answer : Result (Unit {0}) Refusal) (e : answer ≡ asked_of (position_questions first second windows)) where
  pub chain_past : (refusal : Refusal) → answer ≡ Err refusal → Err refusal ≡ chain_answer_of file first second room
  unfolding chain_answer_of chain_questions
  chain_past refusal f =
      asked_refused (position_questions first second windows) (room_question (length (chain_between file first second)) room ∷ []) Err
      (chain_found (chain_between file first second)) answer e refusal f
      ∙ sym (plan_passed file _ Err _ p.accepted ∙ rw (← p.counted))
