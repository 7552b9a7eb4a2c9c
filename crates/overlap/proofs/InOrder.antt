-- What follows from `overlaps_in_order`: in an accepted plan u before v overlap exactly if v begins before the bound of u; and its overlap
-- is in interval order, which is all that the theory of `interval_graph` asks. It stands by itself, so that an edit which makes that law
-- false is refused for it alone.
-- Vocabulary: overlaps_bound, interval_order.
-- Assumes nothing.
use Prim.Native.Nat.{ℕ, ◌+◌, ◌≤◌, ◌<◌}
use mathlib.Core.Bool.{true}
use mathlib.Core.{Path.◌≡◌, Path.refl, Path.sym, Path.◌∙◌, Logic.⊎_elim, Logic.◌≢◌, List.List}
use native.Mathlib.Omega.{arith}
use lib.Dec.{ltb, leb}
use borrow.Author.Tests.{ltb-true, leb-true, lt-ltb, le-leb}
use Rattle.sequences.proofs.{Tests.truth, Tests.iff_equal}
use Rattle.interval_graph.specs.Order.{IntervalOrder}
use Rattle.plan.specs.{File.window_count, File.minimum_handover, File.window_at, File.end_of}
use Rattle.plan.specs.Validation.{AcceptedPlan}
use Rattle.plan.proofs.Acceptance.{accepted_sound, offsets_sorted}
use Rattle.overlap.specs.Overlap.{shared_minutes, overlaps, margin_reaches, bound_of}
use Rattle.overlap.proofs.Overlap.{shared_minutes_lem, overlaps_minimum, minimum_overlaps, overlaps_in_order}

-- The same by the bound of u, which the searches form once for a window.
pub overlaps_bound : (file : List ℕ) → AcceptedPlan file → (u v : ℕ) → u < v → v < window_count file →
    overlaps file u v ≡ ltb (window_at file v).offset (bound_of (minimum_handover file) (window_at file u))
unfolding margin_reaches bound_of
overlaps_bound file ok u v before within =
    let least = (accepted_sound file ok).least in let m = minimum_handover file in
    let a = window_at file u in let o = (window_at file v).offset in
    overlaps_in_order file ok u v before within
    ∙ iff_equal (leb (o + m) (end_of a)) (ltb o (bound_of m a))
    (λ t. lt-ltb o (bound_of m a) (omega (arith, least, leb-true (o + m) (end_of a) t)))
    (λ t. le-leb (o + m) (end_of a) (omega (arith, least, ltb-true o (bound_of m a) t)))

-- The overlap of an accepted plan is in interval order. (`between` rests on question 4, by `overlaps_in_order`.)
pub interval_order : (file : List ℕ) → AcceptedPlan file → IntervalOrder (window_count file) (overlaps file)
unfolding margin_reaches
interval_order file ok =
    record {
      symmetric = λ u v. iff_equal _ _ (turned u v) (turned v u);
      irreflexive = λ v. ⊎_elim (λ t. absurd ((overlaps_minimum file v v t).0 refl)) (λ t. t) (truth (overlaps file v v));
      between = λ u v w uv vw wn t.
          let far : (window_at file w).offset + minimum_handover file ≤ end_of (window_at file u) =
          leb-true _ _ (sym (overlaps_in_order file ok u w (omega arith) wn) ∙ t) in
          overlaps_in_order file ok u v uv (omega arith)
          ∙ le-leb ((window_at file v).offset + minimum_handover file) (end_of (window_at file u))
          (omega (arith, far, offsets_sorted file (accepted_sound file ok) v w (omega arith) wn));
    }
  where
    turned : (u v : ℕ) → overlaps file u v ≡ true → overlaps file v u ≡ true
    turned u v t =
        let h : (u ≢ v) × (minimum_handover file ≤ shared_minutes (window_at file u) (window_at file v)) = overlaps_minimum file u v t in
        minimum_overlaps file v u (λ e. h.0 (sym e))
        (omega (arith, h.1, shared_minutes_lem (window_at file u) (window_at file v), shared_minutes_lem (window_at file v) (window_at file u)))
