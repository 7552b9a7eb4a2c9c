-- A window that is refused is the answer.
use Rattle.std.proofs.Common.{◌≡◌, ◌∙◌, Err, arith}
use Rattle.std.proofs.lemmas.Grind.{common_steps}
use Rattle.refusals.specs.Question.{asked_of, about}
use Rattle.refusals.proofs.Questions.{left_refused}
use Rattle.plan.specs.File.{window_count}
use Rattle.plan.specs.Plan.{bytes_of}
use Rattle.plan.proofs.Even.{ends_asked}
use Rattle.minutes.proofs.evens.ask_even.Goals as goal

pub returns-in_err-ask_end : goal.returns-in_err-ask_end
returns-in_err-ask_end c =
    let at = c.loop-position in
    let no : asked_of (about at.position (ends_asked (bytes_of c.args.plan.now) at.position)) ≡ Err c.in_err-ask_end.field-0.0 = grind (arith, common_steps) in
    let found = at.invariant.1 ∙ left_refused _ at.position (window_count (bytes_of c.args.plan.now)) c.in_err-ask_end.field-0.0 (omega arith) no in
    grind (arith, common_steps)
