-- `demands::end_to_end::pair_from_plan` meets its contract: the refusal of the tag file's call, or the pair call on the front of its table.
use Prim.Native.Nat.{◌*◌}
use mathlib.Core.Path.{sym, ◌∙◌}
use native.Mathlib.Omega.{arith}
use lib.Seq.{length-take-le}
use Rattle.plan.proofs.Counted.{windows_few}
use Rattle.tag_bytes.specs.Fields.{tag_length}
use Rattle.demands.proofs.Running.{running_refused, running_windows, running_paired}
use Rattle.demands.proofs.end_to_end.pair_from_plan.Goals as goal

pub returns-in-Err : goal.returns-in-Err
returns-in-Err c = running_refused _ _ (omega arith) _ _ _ c.tag_file.ensures.value _ c.in-Err.is

pub slice_bounds-tags-end : goal.slice_bounds-tags-end
slice_bounds-tags-end c = let p = running_windows _ _ (omega arith) 0 0 _ c.tag_file.ensures.value _ c.in-Ok.is in
    omega (arith, windows_few p, c.from-end.ensures, c.tag_file.auto.tags)

pub slice_bounds-pair_at-end : goal.slice_bounds-pair_at-end
slice_bounds-pair_at-end c = let p = running_windows _ _ (omega arith) 0 0 _ c.tag_file.ensures.value _ c.in-Ok.is in
    sym (length-take-le (tag_length * c.from-end.result) c.tag_file.new.tags
    (omega (arith, windows_few p, c.from-end.ensures, c.tag_file.auto.tags)))

pub returns-in-Ok : goal.returns-in-Ok
returns-in-Ok c = c.pair_at.ensures ∙ rw c.from-end.ensures
    (running_paired _ _ (omega arith) _ _ _ c.tag_file.ensures.value _ c.in-Ok.is _ _ c.tag_file.ensures.tags_after)
