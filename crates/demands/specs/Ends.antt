-- Paper 02, Q-8: plans in seconds. "The unit is agreed outside the file": no definition has one, and what paper 01 calls a minute is
-- one of the plan's units of time.
-- Vocabulary: span, EndAsked, EndsAsked, EndsFit, LastsByEnds, MarginsWithin, AddedAsked, AddedEnds, alone, late, LateCases.
use Rattle.std.specs.Prelude.{Ok, Err, Result, ℕ, ◌+◌, ◌≤◌, ◌<◌, pos, neg_ℤ, ◌≤ℤ◌}
use mathlib.Core.{Bool.true, Bool.false, Path.◌≡◌, Logic.◌↔◌, Logic.◌≢◌, List.List, List.[], List.◌∷◌}
use Rattle.refusals.specs.Question.{refusal_by}
use Rattle.refusals.specs.declared.refusal.Refusal.{Refusal}
use Rattle.plan.specs.declared.windows.Window.{Window}
use Rattle.plan.specs.declared.questions.Accepted.{Accepted}
use Rattle.plan.specs.File.{plan_number, window_count, minimum_handover, window_at, end_of, file_of}
use Rattle.plan.specs.Validation.{accepted_as, minimum_passes, AcceptedPlan, validate_answer_of}
use Rattle.overlap.specs.Overlap.{overlaps}
use Rattle.overlap.specs.Margin.{margin_between, margin_answer_of}
use Rattle.minutes.specs.Tables.{last_of}
use Rattle.changing.specs.Change.{adding}
use Rattle.changing.specs.Questions.{AcceptedChange, change_answer_of}

abbrev pub span : ℕ → ℕ → Window
span offset length = record { offset = offset; length = length }

-- "Check 5 now lets offset + length reach 4,294,967,295": a window that is long enough for 4 is a plan by itself exactly if its sum is no
-- greater, and else 5 turns it away.
pub record EndAsked (plan minimum offset length : ℕ) : Type 0 where
  pub passes : AcceptedPlan (file_of plan minimum (span offset length ∷ [])) ↔ (offset + length ≤ 4294967295)
  pub refused :
      4294967295 < offset + length →
      validate_answer_of (file_of plan minimum (span offset length ∷ [])) ≡ Err (refusal_by 5)

abbrev pub EndsAsked : Type 0
EndsAsked =
    (plan minimum offset length : ℕ) → minimum_passes minimum ≡ true → minimum ≤ length → EndAsked plan minimum offset length

-- "What a window's reading promises about its end widens accordingly": it is at most that in every accepted plan.
abbrev pub EndsFit : Type 0
EndsFit = (file : List ℕ) → AcceptedPlan file → (v : ℕ) → v < window_count file → end_of (window_at file v) ≤ 4294967295

-- "and so do margin": it lies from −4,294,967,293 to 4,294,967,295, and both are reached.
pub record MarginsWithin : Type 0 where
  pub least :
      (file : List ℕ) → AcceptedPlan file → (u v : ℕ) → u < window_count file → v < window_count file →
      neg_ℤ (pos 4294967293) ≤ℤ margin_between file u v
  pub most :
      (file : List ℕ) → AcceptedPlan file → (u v : ℕ) → u < window_count file → v < window_count file →
      margin_between file u v ≤ℤ pos 4294967295
  pub least_reached :
      margin_answer_of (file_of 0 1 (span 0 1 ∷ span 4294967294 1 ∷ [])) 0 1 ≡ Ok (neg_ℤ (pos 4294967293))
  pub most_reached : margin_answer_of (file_of 0 1 (span 0 4294967295 ∷ [])) 0 0 ≡ Ok (pos 4294967295)

-- "search": the last that is found goes by true sums, wherever the windows lie: a later window stands no further than the last of u
-- exactly if its offset and the minimum together are at most the end of u.
abbrev pub LastsByEnds : Type 0
LastsByEnds =
    (file : List ℕ) → AcceptedPlan file → (u v : ℕ) → u < v → v < window_count file →
    (v ≤ last_of file u) ↔ ((window_at file v).offset + minimum_handover file ≤ end_of (window_at file u))

-- "and change": a window that is long enough can be added, to a plan with a place for it and under another number, exactly if its sum
-- is no greater, and else 5 turns it away, whatever the buffers.
pub record AddedAsked (file : List ℕ) (plan offset length : ℕ) : Type 0 where
  pub passes : AcceptedChange file (adding plan (span offset length)) ↔ (offset + length ≤ 4294967295)
  pub refused :
      4294967295 < offset + length → (changed tags : ℕ) →
      change_answer_of file (adding plan (span offset length)) changed tags ≡ Err (refusal_by 5)

abbrev pub AddedEnds : Type 0
AddedEnds =
    (file : List ℕ) (plan offset length : ℕ) → AcceptedPlan file → window_count file < 2048 → plan ≢ plan_number file →
    minimum_handover file ≤ length → AddedAsked file plan offset length

-- "The old edge case at 10,000,001 passes, and the sum 4,294,967,296 is 5."
abbrev alone : (offset length : ℕ) → Result Accepted Refusal
alone offset length = validate_answer_of (file_of 0 1 (span offset length ∷ []))

-- Two windows of which the later ends at 4,294,967,295.
abbrev late : (minimum : ℕ) → Window → Window → List ℕ
late minimum u v = file_of 0 minimum (u ∷ v ∷ [])

pub record LateCases : Type 0 where
  pub old_edge : alone 10000000 1 ≡ accepted_as 0 1
  pub edge : alone 4294967294 1 ≡ accepted_as 0 1
  pub past : alone 4294967295 1 ≡ Err (refusal_by 5)
  -- Paper 01's trap: "Adding offset and length in 32 bits: 4,294,967,295 twice must give 5."
  pub wrapped : alone 4294967295 6 ≡ Err (refusal_by 5)
  pub twice : alone 4294967295 4294967295 ≡ Err (refusal_by 5)
  -- The last unit of the line overlaps a window that ends with it, and touches one that ends where it begins.
  pub overlapping : overlaps (late 1 (span 4294967290 5) (span 4294967294 1)) 0 1 ≡ true
  pub touching : overlaps (late 1 (span 4294967290 4) (span 4294967294 1)) 0 1 ≡ false
  -- By the greatest minimum its last 86,400 units overlap what covers them all, and nothing that ends one before.
  pub long_enough : overlaps (late 86400 (span 0 4294967295) (span 4294880895 86400)) 0 1 ≡ true
  pub too_short : overlaps (late 86400 (span 0 4294967294) (span 4294880895 86400)) 0 1 ≡ false
