-- One table of a plan by itself: the answer after each test; and that a table which is filled is an accepted plan's.
-- Vocabulary: table_short, table_filled, filled_plan, table_fills.
-- Assumes nothing.
use Rattle.std.proofs.Common.{◌≡◌, ◌∙◌, sym, ℕ, ◌≤◌, ◌<◌, List, [], ◌∷◌, ◌++◌, true, Ok, Err, arith}
use borrow.Author.Tests.{leb-true, le-leb, lt-leb}
use Rattle.sequences.proofs.Tests.{and_left}
use Rattle.refusals.specs.declared.refusal.Refusal.{Refusal}
use Rattle.refusals.specs.Question.{Question, refusal_by, room_question, first_no, all_yes}
use Rattle.refusals.proofs.Questions.{answer_accepted, first_all, append_left, append_right}
use Rattle.plan.specs.File.{window_count}
use Rattle.plan.specs.Validation.{plan_questions, AcceptedPlan}
use Rattle.plan.specs.AcceptedWindows.{AcceptedWindows}
use Rattle.plan.proofs.Calls.{plan_passed}
use Rattle.minutes.specs.SingleTable.{table_questions, table_answer_of}

-- Of an accepted plan the room decides.
module _ (file : List ℕ) (room : ℕ) (ok : AcceptedPlan file) where
  by_room : table_answer_of file room ≡ first_no (room_question (window_count file) room ∷ []) Err (Ok (window_count file))
  unfolding table_answer_of table_questions
  by_room = plan_passed file _ Err _ ok

  pub table_short : room < window_count file → table_answer_of file room ≡ Err (refusal_by 8)
  table_short short = by_room ∙ rw (lt-leb (window_count file) room short)

  pub table_filled : window_count file ≤ room → table_answer_of file room ≡ Ok (window_count file)
  table_filled fits = by_room ∙ rw (le-leb (window_count file) room fits)

no_refusal : (windows : ℕ) (r : Refusal) → Err r ≡ Ok windows → ⊥
no_refusal windows r e = cc

-- Where the answer is a number of windows, the file is that of an accepted plan with so many, and what else was asked is answered "yes".
pub filled_plan : (file : List ℕ) (more : List Question) (windows : ℕ) →
    first_no (plan_questions file ++ more) Err (Ok (window_count file)) ≡ Ok windows → AcceptedWindows file windows × (all_yes more ≡ true)
filled_plan file more windows e =
    let all = plan_questions file ++ more in let n = window_count file in
    let same : Ok n ≡ Ok windows = answer_accepted all Err (Ok n) (Ok windows) (no_refusal windows) e in
    let counted : windows ≡ n = cc in
    let passed : all_yes all ≡ true = first_all all Err (Ok n) (no_refusal n) (e ∙ sym same) in (
      record { accepted = append_left (plan_questions file) more passed; counted = counted },
      append_right (plan_questions file) more passed,
    )

-- A table that is filled has room for an entry for each window.
pub table_fills : (file : List ℕ) (room windows : ℕ) → table_answer_of file room ≡ Ok windows → AcceptedWindows file windows × (windows ≤ room)
unfolding table_answer_of table_questions
table_fills file room windows e =
    let p = filled_plan file (room_question (window_count file) room ∷ []) windows e in
    (p.0, omega (arith, p.0.counted, leb-true (window_count file) room (and_left _ true p.1)))
