-- Q-8: question 5 of a window that is a plan by itself and of one that is added; ends, margins and lasts in an accepted plan; and the cases.
-- Assumes nothing.
use Rattle.std.specs.Prelude.{Err}
use Prim.Native.Nat.{ℕ, ◌+◌, ◌≤◌, ◌<◌}
use mathlib.Core.{Path.◌≡◌, Path.refl, Path.sym, Path.◌∙◌, Bool.true, Logic.◌≢◌, Logic.⊎_elim, List.List, List.[], List.◌∷◌}
use native.Mathlib.Omega.{arith}
use lib.Dec.{leb}
use lib.IntN.{pos, neg_ℤ}
use lib.Signed.{◌≤ℤ◌}
use borrow.Author.Tests.{lt-ltb, le-leb, lt-leb, ne_eqb}
use Rattle.sequences.proofs.Tests.{lt_or_ge}
use Rattle.refusals.specs.Question.{refusal_by}
use Rattle.plan.specs.declared.windows.Window.{Window}
use Rattle.plan.specs.File.{plan_number, window_count, minimum_handover, window_at, end_of, file_of}
use Rattle.plan.specs.Validation.{greatest_count, greatest_end, minimum_passes, window_questions, AcceptedPlan, validate_answer_of}
use Rattle.plan.proofs.{Acceptance.accepted_sound, Calls.plan_passed, Plan12.plan_meaning}
use Rattle.plan.proofs.Validated.{ask_5, ask_own_no, windows_answer, passed_start, passed_refused}
use Rattle.plan.proofs.Written.{length-file_of, plan-file_of, count-file_of, minimum_file_of, window_file_of, windows_pass, accepted-file_of}
use Rattle.overlap.specs.Overlap.{overlaps, margin_reaches}
use Rattle.overlap.specs.Margin.{margin_of, margin_between, margin_questions, margin_answer_of}
use Rattle.overlap.proofs.{Overlap.overlaps_in_order, Margining.margin_most, Margining.margin_least}
use Rattle.minutes.proofs.Reached.{behind_last, not_behind}
use Rattle.changing.specs.Change.{adding}
use Rattle.changing.specs.Questions.{has_place, edit_questions, record_questions, AcceptedChange, change_questions, change_answer_of}
use Rattle.changing.proofs.Asked.{accept_change, change_added}
use Rattle.demands.specs.Ends.{span, EndsAsked, EndsFit, MarginsWithin, LastsByEnds, AddedEnds, LateCases}

-- A window that is a plan by itself.
module _ (plan minimum offset length : ℕ) (passes : minimum_passes minimum ≡ true) (long : minimum ≤ length) where
  abbrev windows : List Window
  windows = span offset length ∷ []

  abbrev file : List ℕ
  file = file_of plan minimum windows

  read : window_at file 0 ≡ span offset length
  read = window_file_of plan minimum windows 0 (span offset length) (omega arith)

  alone_fits : AcceptedPlan file → offset + length ≤ 4294967295
  unfolding end_of
  alone_fits ok = rw read at ((accepted_sound file ok).early 0 (omega (arith, count-file_of plan minimum windows)))

  alone_passes : offset + length ≤ 4294967295 → AcceptedPlan file
  unfolding end_of windows_pass window_questions
  alone_passes early =
      accepted-file_of plan minimum windows (span offset length)
      ∙ rw (passes, le-leb minimum length long, le-leb (offset + length) greatest_end early, le-leb 0 offset (omega arith))

  alone_late : 4294967295 < offset + length → validate_answer_of file ≡ Err (refusal_by 5)
  unfolding end_of
  alone_late late =
      let whole = length-file_of plan minimum windows in
      let own = ask_5 minimum (span offset length) long late in
      let asked = ask_own_no minimum 0 (span offset length) (Err (refusal_by 5)) own (refusal_by 5) refl in
      sym (windows_answer file 1 (sym (count-file_of plan minimum windows)) (omega (arith, whole)) (omega arith) minimum
      (sym (minimum_file_of plan minimum windows)) passes plan (sym (plan-file_of plan minimum windows)) whole (Err (refusal_by 5))
      (passed_refused file minimum plan 1 0 0 (span offset length) (omega arith) (passed_start file minimum plan 1) (sym read) (refusal_by 5) asked))

pub ends_asked : EndsAsked
ends_asked plan minimum offset length passes long =
    record {
      passes = (alone_fits plan minimum offset length passes long, alone_passes plan minimum offset length passes long);
      refused = alone_late plan minimum offset length passes long;
    }

pub ends_fit : EndsFit
ends_fit file ok = (accepted_sound file ok).early

-- A window of an accepted plan has a minute.
some : (file : List ℕ) → AcceptedPlan file → (v : ℕ) → v < window_count file → 1 ≤ (window_at file v).length
some file ok v within = omega (arith, (accepted_sound file ok).least, (accepted_sound file ok).long v within)

module _ (file : List ℕ) (ok : AcceptedPlan file) (u v : ℕ) (hu : u < window_count file) (hv : v < window_count file) where
  within_least : neg_ℤ (pos 4294967293) ≤ℤ margin_between file u v
  unfolding margin_between
  within_least =
      margin_least (window_at file u) (window_at file v) greatest_end (some file ok u hu) (some file ok v hv) (ends_fit file ok u hu)
      (ends_fit file ok v hv)

  within_most : margin_between file u v ≤ℤ pos 4294967295
  unfolding margin_between
  within_most = margin_most (window_at file u) (window_at file v) greatest_end (ends_fit file ok u hu)

pub margins_within : MarginsWithin
unfolding plan_meaning margin_of margin_between margin_questions margin_answer_of
margins_within = record { least = within_least; most = within_most; least_reached = refl; most_reached = refl }

pub lasts_by_ends : LastsByEnds
unfolding margin_reaches
lasts_by_ends file ok u v before within =
    let own : u < window_count file = omega arith in let needed = (window_at file v).offset + minimum_handover file in let end = end_of (window_at file u) in (
      λ near. ⊎_elim (λ short. absurd (omega (arith, behind_last file ok u own v within (lt-leb needed end short)))) (λ reaches. reaches)
          (lt_or_ge end needed),
      λ reaches. not_behind file ok u own v within (le-leb needed end reaches),
    )

-- A window that is added.
module _ (file : List ℕ) (plan offset length : ℕ) (ok : AcceptedPlan file) (few : window_count file < 2048) (other : plan ≢ plan_number file)
    (long : minimum_handover file ≤ length) where
  added_fits : AcceptedChange file (adding plan (span offset length)) → offset + length ≤ 4294967295
  unfolding end_of
  added_fits accepted = (change_added file plan (span offset length) accepted).2

  added_passes : offset + length ≤ 4294967295 → AcceptedChange file (adding plan (span offset length))
  unfolding end_of has_place edit_questions
  added_passes early =
      accept_change file (adding plan (span offset length)) ok (lt-ltb (window_count file) greatest_count few) other
      (rw (le-leb (minimum_handover file) length long, le-leb (offset + length) greatest_end early))

  added_late : 4294967295 < offset + length → (changed tags : ℕ) →
      change_answer_of file (adding plan (span offset length)) changed tags ≡ Err (refusal_by 5)
  unfolding end_of change_answer_of change_questions record_questions has_place edit_questions
  added_late late changed tags =
      plan_passed file _ Err _ ok
      ∙ rw (
        lt-ltb (window_count file) greatest_count few,
        ne_eqb plan (plan_number file) other,
        le-leb (minimum_handover file) length long,
        lt-leb (offset + length) greatest_end late,
      )

pub added_ends : AddedEnds
added_ends file plan offset length ok few other long =
    record {
      passes = (added_fits file plan offset length ok few other long, added_passes file plan offset length ok few other long);
      refused = added_late file plan offset length ok few other long;
    }

-- Two windows overlap by the law and not by counting minutes, of which there are too many here.
two_overlap : (minimum : ℕ) (u v : Window) → AcceptedPlan (file_of 0 minimum (u ∷ v ∷ [])) →
    overlaps (file_of 0 minimum (u ∷ v ∷ [])) 0 1 ≡ leb (v.offset + minimum) (end_of u)
unfolding margin_reaches
two_overlap minimum u v ok =
    let windows = u ∷ v ∷ [] in
    overlaps_in_order (file_of 0 minimum windows) ok 0 1 (omega arith) (omega (arith, count-file_of 0 minimum windows))
    ∙ rw (
      minimum_file_of 0 minimum windows,
      window_file_of 0 minimum windows 0 u (omega arith),
      window_file_of 0 minimum windows 1 u (omega arith),
    )

pub late_cases : LateCases
unfolding plan_meaning
late_cases =
    record {
      old_edge = refl;
      edge = refl;
      past = refl;
      wrapped = refl;
      twice = refl;
      overlapping = two_overlap 1 (span 4294967290 5) (span 4294967294 1) refl;
      touching = two_overlap 1 (span 4294967290 4) (span 4294967294 1) refl;
      long_enough = two_overlap 86400 (span 0 4294967295) (span 4294880895 86400) refl;
      too_short = two_overlap 86400 (span 0 4294967294) (span 4294880895 86400) refl;
    }
