-- Q-7: the call answers with the margin, and what the margin says.
-- Assumes nothing.
use Rattle.std.specs.Prelude.{Ok, Err}
use Prim.Native.Nat.{ℕ, ◌≤◌, ◌<◌}
use mathlib.Core.{Path.◌≡◌, Path.refl, Path.sym, Path.◌∙◌, List.List}
use native.Mathlib.Omega.{arith}
use borrow.Author.Tests.{lt-ltb}
use Rattle.plan.specs.{File.window_count, File.minimum_handover, File.window_at, Validation.AcceptedPlan, Validation.validate_answer_of}
use Rattle.plan.proofs.{Acceptance.accepted_sound, Acceptance.accepted_validated, Calls.plan_accepted}
use Rattle.overlap.specs.Margin.{margin_between, margin_questions, margin_answer_of}
use Rattle.overlap.proofs.Overlap.{overlaps_minimum, minimum_overlaps}
use Rattle.overlap.proofs.Margining.{margin_symmetric, margin_shared, margin_gap, margin_reaches_lem, margin_own, reaches_margin}
use Rattle.demands.specs.Margin.{Margins, MarginTested}

margin_given : (file : List ℕ) → AcceptedPlan file → (u v : ℕ) → u < window_count file → v < window_count file →
    margin_answer_of file u v ≡ Ok (margin_between file u v)
unfolding margin_answer_of margin_questions
margin_given file ok u v hu hv =
    sym (plan_accepted file _ Err _ (validate_answer_of file) refl _ _ (accepted_validated file ok))
    ∙ rw (lt-ltb u (window_count file) hu, lt-ltb v (window_count file) hv)

pub margins : Margins
unfolding margin_between
margins file ok u v hu hv =
    let a = window_at file u in let b = window_at file v in let sound = accepted_sound file ok in
    let some : (w : ℕ) → w < window_count file → 1 ≤ (window_at file w).length = λ w h. omega (arith, sound.least, sound.long w h) in
    record {
      given = margin_given file ok u v hu hv;
      shared = margin_shared a b;
      gap = margin_gap a b (some u hu) (some v hv);
      own = λ e. rw e (margin_own b);
      overlap = λ other. (
        λ t. (margin_reaches_lem a b (minimum_handover file) sound.least).1 (overlaps_minimum file u v t).1,
        λ r. minimum_overlaps file u v other ((margin_reaches_lem a b (minimum_handover file) sound.least).0 r),
      );
      symmetric = margin_symmetric a b;
    }

pub margin_tested : MarginTested
margin_tested = reaches_margin
