-- A table of an even plan: the answer after each test, and that a table which is filled is an accepted plan's.
-- Vocabulary: even_13, even_short, even_filled, even_fills.
-- Assumes nothing.
use Rattle.std.proofs.Common.{◌≡◌, ◌∙◌, ℕ, ◌≤◌, ◌<◌, List, [], ◌∷◌, ◌++◌, true, Ok, Err, arith}
use borrow.Author.Tests.{leb-true, le-leb, lt-leb}
use Rattle.sequences.proofs.Tests.{and_left}
use Rattle.refusals.specs.declared.refusal.Refusal.{Refusal}
use Rattle.refusals.specs.Question.{refusal_by, room_question, first_no, asked_of}
use Rattle.refusals.proofs.Questions.{after_passed, after_refused, append_right}
use Rattle.plan.specs.File.{window_count}
use Rattle.plan.specs.Validation.{AcceptedPlan}
use Rattle.plan.specs.Even.{even_questions}
use Rattle.plan.specs.AcceptedWindows.{AcceptedWindows}
use Rattle.plan.proofs.Calls.{plan_passed}
use Rattle.minutes.specs.EvenTable.{even_table_questions, even_table_answer_of}
use Rattle.minutes.proofs.SingleTabled.{filled_plan}

-- Of an accepted plan the rest decides.
module _ (file : List ℕ) (room : ℕ) (ok : AcceptedPlan file) where
  rest : even_table_answer_of file room ≡ first_no (even_questions file ++ (room_question (window_count file) room ∷ [])) Err (Ok (window_count file))
  unfolding even_table_answer_of even_table_questions
  rest = plan_passed file _ Err _ ok

  pub even_13 : (refusal : Refusal) → asked_of (even_questions file) ≡ Err refusal → even_table_answer_of file room ≡ Err refusal
  even_13 refusal falls = rest ∙ after_refused (even_questions file) Err _ refusal falls _

  module _ (even : asked_of (even_questions file) ≡ Ok tt) where
    by_room : even_table_answer_of file room ≡ first_no (room_question (window_count file) room ∷ []) Err (Ok (window_count file))
    by_room = rest ∙ after_passed (even_questions file) Err _ even _

    pub even_short : room < window_count file → even_table_answer_of file room ≡ Err (refusal_by 8)
    even_short short = by_room ∙ rw (lt-leb (window_count file) room short)

    pub even_filled : window_count file ≤ room → even_table_answer_of file room ≡ Ok (window_count file)
    even_filled fits = by_room ∙ rw (le-leb (window_count file) room fits)

-- A table that is filled is that of an accepted plan, with room for an entry for each window.
pub even_fills : (file : List ℕ) (room windows : ℕ) → even_table_answer_of file room ≡ Ok windows → AcceptedWindows file windows × (windows ≤ room)
unfolding even_table_answer_of even_table_questions
even_fills file room windows e =
    let last = room_question (window_count file) room ∷ [] in let p = filled_plan file (even_questions file ++ last) windows e in
    (p.0, omega (arith, p.0.counted, leb-true (window_count file) room (and_left _ true (append_right (even_questions file) last p.1))))
