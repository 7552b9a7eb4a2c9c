-- In an even plan no last falls from one window to the next, which is all that the theory of short tags asks: what begins early enough
-- before the end of a window does so before that of the next.
-- Assumes nothing.
use Prim.Native.Nat.{ℕ, suc, ◌+◌}
use mathlib.Core.{Path.sym, Path.◌∙◌, Logic.⊎_elim, List.List}
use native.Mathlib.Omega.{arith}
use borrow.Author.Tests.{leb-true, le-leb}
use Rattle.sequences.proofs.Tests.{lt_or_ge}
use Rattle.interval_graph.specs.Tree.{last, LastsRise}
use Rattle.interval_graph.proofs.Last.{last_cases, last_ge, overlap_last}
use Rattle.plan.specs.{File.window_count, File.minimum_handover, File.window_at, File.end_of, Validation.AcceptedPlan, Even.EvenPlan}
use Rattle.plan.proofs.Even.{even_ends}
use Rattle.overlap.specs.Overlap.{overlaps, margin_reaches}
use Rattle.overlap.proofs.Overlap.{overlaps_in_order}
use Rattle.overlap.proofs.InOrder.{interval_order}

pub even_lasts : (file : List ℕ) → AcceptedPlan file → EvenPlan file → LastsRise (window_count file) (overlaps file)
unfolding margin_reaches
even_lasts file ok even v h =
    let n = window_count file in let z = last n (overlaps file) v in let order = interval_order file ok in
    let full = (window_at file z).offset + minimum_handover file in ⊎_elim (λ c. ⊎_elim
    (λ l. let early = leb-true full (end_of (window_at file v)) (sym (overlaps_in_order file ok v z c.0 c.1) ∙ c.2) in
    overlap_last order (suc v) z l c.1 (overlaps_in_order file ok (suc v) z l c.1
    ∙ le-leb full (end_of (window_at file (suc v))) (omega (arith, early, even_ends file even v h))))
    (λ l. omega (arith, l, last_ge order (suc v))) (lt_or_ge (suc v) z))
    (λ c. omega (arith, c, last_ge order (suc v))) (last_cases n (overlaps file) v)
