-- Paper 01, "Calls on a plan": what it says of sameness, of what the call answers for accepted plans.
-- Vocabulary: SameOverlap, EqualTags, SameAnswered.
use Rattle.std.specs.Prelude.{Ok, true, false, ℕ, ◌<◌, drop}
use mathlib.Core.{Path.◌≡◌, Logic.◌↔◌, List.List}
use Rattle.plan.specs.{File.window_count, Validation.AcceptedPlan}
use Rattle.overlap.specs.Overlap.{overlaps}
use Rattle.sameness.specs.Sameness.{same_answer_of}
use Rattle.demands.specs.EndToEnd.{tag_at}

-- "they have equal n and the same pairs of positions overlap"
pub record SameOverlap (first second : List ℕ) : Type 0 where
  pub count : window_count first ≡ window_count second
  pub pairs : (u v : ℕ) → u < window_count first → v < window_count first → overlaps first u v ≡ overlaps second u v

-- "equal tags apart from the plan number": as many windows, and at each position the same bytes after the plan number's two.
pub record EqualTags (first second : List ℕ) : Type 0 where
  pub count : window_count first ≡ window_count second
  pub tags : (v : ℕ) → v < window_count first → drop 2 (tag_at first v) ≡ drop 2 (tag_at second v)

-- "Two plans are the same when …; equal tags apart from the plan number say just that."
pub record SameAnswered (first second : List ℕ) : Type 0 where
  pub same : (same_answer_of first second ≡ Ok true) ↔ SameOverlap first second
  pub different : (same_answer_of first second ≡ Ok false) ↔ (SameOverlap first second → ⊥)
  pub tags : SameOverlap first second ↔ EqualTags first second

abbrev pub Sameness : Type 0
Sameness = (first second : List ℕ) → AcceptedPlan first → AcceptedPlan second → SameAnswered first second
