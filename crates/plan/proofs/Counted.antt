-- What is known of an accepted plan's file by the number of its windows, and that a validation hands it on; and where each of its
-- windows lies, which whoever reads windows cites.
-- Vocabulary: windows_few, validated_windows, window_within, minimum_within, needed_least.
-- Assumes nothing.
use Prim.Native.Nat.{ℕ, ◌+◌, ◌-◌, ◌≤◌, ◌<◌}
use mathlib.Core.{Path.◌≡◌, Path.sym, Path.◌∙◌, List.List}
use native.Mathlib.Omega.{arith}
use Rattle.std.specs.Prelude.{Result}
use Rattle.refusals.specs.declared.refusal.Refusal.{Refusal}
use Rattle.plan.specs.declared.questions.Accepted.{Accepted}
use Rattle.plan.specs.Validation.{accepted_as}
use lib.ListN.{length}
use Rattle.plan.specs.File.{window_length, window_place, window_count, minimum_handover, window_at, end_of}
use Rattle.plan.specs.Validation.{greatest_count, AcceptedPlan, validate_answer_of}
use Rattle.plan.specs.AcceptedWindows.{AcceptedWindows}
use Rattle.plan.proofs.{Acceptance.accepted_sound, Calls.accepted_numbers, Calls.accepted_plan}

module _ {file : List ℕ} {windows : ℕ} (p : AcceptedWindows file windows) where
  -- An accepted plan has at most so many windows, so tables of that many entries hold them.
  pub windows_few : windows ≤ greatest_count
  windows_few = omega (arith, p.counted, (accepted_sound file p.accepted).few)

module _ (file : List ℕ) (answer : Result Accepted Refusal) (validated : answer ≡ validate_answer_of file) (plan windows : ℕ) (e : answer ≡ accepted_as plan windows) where
  pub validated_windows : AcceptedWindows file windows
  validated_windows =
      record {
        accepted = accepted_plan file plan windows (sym e ∙ validated);
        counted = (accepted_numbers file plan windows (sym e ∙ validated)).1;
      }

-- A window of an accepted plan.
module _ (file : List ℕ) (ok : AcceptedPlan file) (v : ℕ) (h : v < window_count file) where
  -- Its part lies within the file.
  pub window_within : (window_place v + window_length ≤ length file) × (v < greatest_count)
  window_within = (omega (arith, (accepted_sound file ok).whole), omega (arith, (accepted_sound file ok).few))

  -- The minimum is at least 1 and not past its end.
  pub minimum_within : (1 ≤ minimum_handover file) × (minimum_handover file - 1 ≤ end_of (window_at file v))
  unfolding end_of
  minimum_within = ((accepted_sound file ok).least, omega (arith, (accepted_sound file ok).long v h))

  -- It ends no earlier than an earlier window must, to overlap it.
  pub needed_least : (window_at file v).offset + minimum_handover file ≤ end_of (window_at file v)
  unfolding end_of
  needed_least = omega (arith, (accepted_sound file ok).long v h)
