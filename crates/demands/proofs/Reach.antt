-- Q-5: the call answers by the definition that computes, of which the theory says that it is what chains say.
-- Assumes nothing.
use Rattle.std.specs.Prelude.{Result, Ok, Err}
use Rattle.refusals.specs.declared.refusal.Refusal.{Refusal}
use Rattle.reaching.specs.declared.answers.Reach.{Reach}
use Prim.Native.Nat.{ℕ, ◌<◌}
use mathlib.Core.{Path.◌≡◌, Path.refl, Path.sym, Path.ap, Path.◌∙◌, List.List, List.[]}
use borrow.Author.Tests.{lt-ltb}
use Rattle.interval_graph.specs.{Reach.Farthest, Reach.reach, Reach.smaller, Reach.larger}
use Rattle.interval_graph.proofs.{Reach.reach_bound_lem, ShortestChain.joined_iff_component}
use Rattle.interval_graph.proofs.Farthest.{reach_far, far_farthest, farthest_unique, farthest_alone, farthest_windows}
use Rattle.plan.specs.{File.window_count, Validation.AcceptedPlan, Validation.validate_answer_of}
use Rattle.overlap.specs.Overlap.{overlaps}
use Rattle.plan.proofs.{Acceptance.accepted_validated, Calls.plan_accepted}
use Rattle.overlap.proofs.InOrder.{interval_order}
use Rattle.reaching.specs.Reach.{reach_as, reach_questions, reach_in, reach_of, reach_answer_of}
use Rattle.demands.specs.Reach.{ReachExact, Components, ReachBounds}
use Rattle.demands.proofs.Counts.{demand_3}

-- For a window of an accepted plan the call answers with the definition's three numbers.
reach_answered : (file : List ℕ) → AcceptedPlan file → (at : ℕ) → at < window_count file →
    reach_answer_of file at ≡ reach_as (reach (window_count file) (overlaps file) at)
    (smaller (window_count file) (overlaps file) at) (larger (window_count file) (overlaps file) at)
unfolding reach_answer_of reach_in reach_of reach_questions
reach_answered file ok at h =
    sym (plan_accepted file _ Err _ (validate_answer_of file) refl _ _ (accepted_validated file ok))
    ∙ rw (lt-ltb at (window_count file) h)

-- The numbers of a reach that was answered.
abbrev answered_of : (Reach → ℕ) → Result Reach Refusal → ℕ
answered_of figure (Ok found) = figure found
answered_of figure (Err refusal) = 0

module _ (file : List ℕ) (ok : AcceptedPlan file) (at : ℕ) (h : at < window_count file) where
  -- They are the farthest pair.
  found : Farthest (window_count file) (overlaps file) at (reach (window_count file) (overlaps file) at)
      (smaller (window_count file) (overlaps file) at) (larger (window_count file) (overlaps file) at)
  found = let order = interval_order file ok in far_farthest order at _ _ _ h (reach_far order at h)

  answered_exactly : (k u v : ℕ) → reach_answer_of file at ≡ reach_as k u v → Farthest (window_count file) (overlaps file) at k u v
  answered_exactly k u v e =
      let same : reach_as k u v ≡ reach_as (reach (window_count file) (overlaps file) at)
      (smaller (window_count file) (overlaps file) at) (larger (window_count file) (overlaps file) at) = sym e ∙ reach_answered file ok at h
      in
      let p : k ≡ reach (window_count file) (overlaps file) at = ap (answered_of (λ r. r.handovers)) same in
      let q : u ≡ smaller (window_count file) (overlaps file) at = ap (answered_of (λ r. r.smaller)) same in
      let r : v ≡ larger (window_count file) (overlaps file) at = ap (answered_of (λ r. r.larger)) same in rw (p, q, r) found

  exactly_answered : (k u v : ℕ) → Farthest (window_count file) (overlaps file) at k u v → reach_answer_of file at ≡ reach_as k u v
  exactly_answered k u v f =
      let one = farthest_unique _ _ at _ _ _ _ _ _ found f in reach_answered file ok at h ∙ rw (one.0, one.1, one.2)

pub reach_exact : ReachExact
reach_exact file ok at h =
    record {
      exact = λ k u v. (answered_exactly file ok at h k u v, exactly_answered file ok at h k u v);
      given = (_, _, _, reach_answered file ok at h);
      alone = λ all. exactly_answered file ok at h 0 at at (farthest_alone (interval_order file ok) at h all);
      from_tags = λ k u v e. let f = answered_exactly file ok at h k u v e in
          let w = farthest_windows (interval_order file ok) at k u v f in
          ((demand_3 file ok u v w.0 w.1 []).counted k).1 f.attained;
    }

pub components : Components
components file ok u v hu hv = joined_iff_component (interval_order file ok) u v hu hv

pub reach_bounds : ReachBounds
reach_bounds file ok at h u v k hu hv p q least = reach_bound_lem (interval_order file ok) at u v k h hu hv p q least
