use Rattle.std.proofs.Common.{◌≡◌, ◌∙◌, Err, arith}
use Rattle.std.proofs.lemmas.Grind.{common_steps}
use Rattle.refusals.specs.Question.{asked_of, about}
use Rattle.refusals.proofs.Questions.{left_refused}
use Rattle.plan.specs.Validation.{asked_with}
use Rattle.plan.proofs.plan_file.ask_windows.Goals as goal

pub returns-in_err-ask_at : goal.returns-in_err-ask_at
returns-in_err-ask_at c =
    let at = c.loop-position in
    let no : asked_of (about at.position (asked_with c.args.minimum c.args.file.now at.position)) ≡ Err c.in_err-ask_at.field-0.0 = grind (arith, common_steps) in
    let found = at.invariant.1 ∙ left_refused _ at.position c.args.len c.in_err-ask_at.field-0.0 (omega arith) no in
    grind (arith, common_steps)
