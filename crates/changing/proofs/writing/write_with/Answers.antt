use Rattle.std.proofs.Common.{ap, sym, ◌∙◌, arith, rules}
use Rattle.plan.specs.File.{window_count, minimum_handover}
use Rattle.plan.specs.Validation.{AcceptedPlan}
use Rattle.changing.proofs.Written.{place_added, with_written}
use Rattle.changing.proofs.writing.write_with.Goals as goal

pub returns-clause-changed_after : goal.returns-clause-changed_after
returns-clause-changed_after c =
    let file = c.bytes-file.result.now in
    let same = c.bytes-file.ensures in
    let ok : AcceptedPlan file = rw same c.args.plan.now.accepted in
    rw (← same) (with_written file ok (λ i. search rules) c.args.number c.args.changed.now c.args.window _
    (omega (arith, rw (← same) at c.place_of.ensures, place_added file c.args.window)) (rw (← same) at c.requires.fits) _ _
    (c.count-windows.ensures ∙ ap window_count (sym same)) (c.minimum.ensures ∙ ap minimum_handover (sym same)) _ _ _ _
    c.write_header.ensures c.copy_part.ensures c.write.ensures c.copy_part-2.ensures)
