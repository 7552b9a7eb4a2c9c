use Rattle.std.proofs.Common.{ap, sym, ◌∙◌, rules}
use Rattle.plan.specs.File.{window_count, minimum_handover}
use Rattle.plan.specs.Validation.{AcceptedPlan}
use Rattle.changing.proofs.Written.{without_written}
use Rattle.changing.proofs.writing.write_without.Goals as goal

pub returns-clause-changed_after : goal.returns-clause-changed_after
returns-clause-changed_after c =
    let file = c.bytes-file.result.now in
    let same = c.bytes-file.ensures in
    let ok : AcceptedPlan file = rw same c.args.plan.now.accepted in
    rw (← same) (without_written file ok (λ i. search rules) c.args.number c.args.changed.now c.args.at (rw (← same) at c.requires.there) _
    c.window_place-place.ensures (rw (← same) at c.requires.fits) _ _ (c.count-windows.ensures ∙ ap window_count (sym same))
    (c.minimum.ensures ∙ ap minimum_handover (sym same)) _ _ _ c.write_header.ensures c.copy_part.ensures c.copy_part-2.ensures)
