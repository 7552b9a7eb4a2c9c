-- Paper 02, Q-2: a handover takes time.
-- Vocabulary: Overlapping, MinimumOverlaps, AsBefore, MinimumOne, SharesAlike, SameMinimumOne, OldRefused, OutOfOrder, NeedsLength, three,
-- equals, minimum_cases, MinimumCasesHold.
use Rattle.std.specs.Prelude.{Ok, ℕ, ◌+◌, ◌*◌, ◌≤◌, ◌<◌, length}
use mathlib.Core.{Bool.true, Path.◌≡◌, Logic.◌↔◌, Logic.◌≢◌, List.List, List.[], List.◌∷◌, List.Memᴰ}
use Rattle.sequences.specs.Search.{passing}
use Rattle.interval_graph.specs.{Chain.LeastHandovers, Order.IntervalOrder, Walk.chain_of}
use Rattle.interval_graph.specs.Tree.{parent, last, component, depth, rank, last_rank}
use Rattle.interval_graph.specs.Numbers.{numbers_of, apart, no_chain}
use Rattle.plan.specs.{declared.windows.Window.Window, File.plan_number, File.window_count, File.minimum_handover, File.window_length}
use Rattle.plan.specs.File.{window_at, end_of, file_of}
use Rattle.overlap.specs.Overlap.{shared_minutes, overlaps, shares_minute}
use Rattle.plan.specs.{Validation.minimum_passes, Validation.AcceptedPlan}
use Rattle.minutes.specs.Tables.{parent_of, last_of}
use Rattle.numbering.specs.Tables.{component_of, depth_of, rank_of, last_rank_of, numbers_at}
use Rattle.path.specs.Chain.{chain_between}
use Rattle.neighbouring.specs.Neighbours.{neighbours_of}
use Rattle.sameness.specs.Sameness.{same_answer_of}
use Rattle.demands.specs.Cases.{Case, CaseHolds}

-- "Two windows overlap when they share at least that many minutes." In an accepted plan u before v do so exactly if the offset of v and
-- the minimum together are at most the end of u; and its overlap is in interval order, which is all that the tree, the tags, the pair and
-- demand 3 rest on.
pub record Overlapping (file : List ℕ) : Type 0 where
  pub shared :
      (u v : ℕ) → (overlaps file u v ≡ true) ↔ ((u ≢ v) × (minimum_handover file ≤ shared_minutes (window_at file u) (window_at file v)))
  pub in_order :
      (u v : ℕ) → u < v → v < window_count file →
      (overlaps file u v ≡ true) ↔ ((window_at file v).offset + minimum_handover file ≤ end_of (window_at file u))
  pub ordered : IntervalOrder (window_count file) (overlaps file)
  -- "Every window is at least that long", and 14, "a minimum outside 1 to 86,400" is turned away.
  pub long : (v : ℕ) → v < window_count file → minimum_handover file ≤ (window_at file v).length
  pub least : 1 ≤ minimum_handover file
  pub most : minimum_handover file ≤ 86400

abbrev pub MinimumOverlaps : Type 0
MinimumOverlaps = (file : List ℕ) → AcceptedPlan file → Overlapping file

-- "A minimum of 1 gives the tables of before": all that the calls give of such a plan is what paper 01 gives its windows, where two
-- overlap when they share a minute.
pub record AsBefore (file : List ℕ) : Type 0 where
  pub parents : (v : ℕ) → parent_of file v ≡ parent (shares_minute file) v
  pub lasts : (v : ℕ) → last_of file v ≡ last (window_count file) (shares_minute file) v
  pub components : (v : ℕ) → component_of file v ≡ component (shares_minute file) v
  pub depths : (v : ℕ) → depth_of file v ≡ depth (shares_minute file) v
  pub ranks : (v : ℕ) → rank_of file v ≡ rank (window_count file) (shares_minute file) v
  pub last_ranks : (v : ℕ) → last_rank_of file v ≡ last_rank (window_count file) (shares_minute file) v
  pub tags : (v : ℕ) → numbers_at file v ≡ numbers_of (window_count file) (shares_minute file) (plan_number file) v
  pub chains : (u v : ℕ) → chain_between file u v ≡ chain_of (window_count file) (shares_minute file) u v
  pub counts :
      (u v k : ℕ) →
      LeastHandovers (window_count file) (overlaps file) u v k ↔ LeastHandovers (window_count file) (shares_minute file) u v k
  pub neighbours : (v : ℕ) → neighbours_of file v ≡ passing (shares_minute file v) 0 (window_count file)

abbrev pub MinimumOne : Type 0
MinimumOne = (file : List ℕ) → minimum_handover file ≡ 1 → AsBefore file

-- And so is sameness. (Of two plans with any minimums it is `Sameness`, in Calls: n and the pairs that overlap.)
abbrev pub SharesAlike : (first second : List ℕ) → Type 0
SharesAlike first second =
    (window_count first ≡ window_count second)
    × ((u v : ℕ) → u < window_count first → v < window_count first → shares_minute first u v ≡ shares_minute second u v)

abbrev pub SameMinimumOne : Type 0
SameMinimumOne =
    (first second : List ℕ) → AcceptedPlan first → AcceptedPlan second → minimum_handover first ≡ 1 → minimum_handover second ≡ 1 →
    (same_answer_of first second ≡ Ok true) ↔ SharesAlike first second

-- A file with the header of before, of 4 bytes, is never taken for one with a minimum: n stands in the same bytes, and of its two lengths
-- neither is the other.
abbrev pub OldRefused : Type 0
OldRefused = (file : List ℕ) → length file ≡ 4 + window_length * window_count file → AcceptedPlan file → ⊥

-- "Every window is at least that long": why 4 is asked. Of some windows that are accepted with minimum 1, and a minimum that passes 14,
-- the overlap is not in interval order.
pub record OutOfOrder (windows : List Window) (minimum : ℕ) : Type 0 where
  pub accepted : AcceptedPlan (file_of 0 1 windows)
  pub passes : minimum_passes minimum ≡ true
  pub out : IntervalOrder (length windows) (overlaps (file_of 0 minimum windows)) → ⊥

abbrev pub NeedsLength : Type 0
NeedsLength = (windows : List Window) × (minimum : ℕ) × OutOfOrder windows minimum

-- Three windows of which each shares 8 minutes with the next, and the first 4 with the last, with rising minimums: the chain needs the
-- second once 4 are too few, and there is none once 8 are. And two windows (5, 5), which share all of their minutes.
unfoldable pub three : (minimum : ℕ) → List ℕ
three minimum =
    file_of 0 minimum (record { offset = 0; length = 12 } ∷ record { offset = 4; length = 12 } ∷ record { offset = 8; length = 12 } ∷ [])

unfoldable pub equals : (minimum : ℕ) → List ℕ
equals minimum = file_of 0 minimum (record { offset = 5; length = 5 } ∷ record { offset = 5; length = 5 } ∷ [])

unfoldable pub minimum_cases : List Case
minimum_cases =
    (three 4, 1, 0, 2, apart 1, 2 ∷ 0 ∷ [])
    ∷ (three 5, 1, 0, 2, apart 2, 2 ∷ 1 ∷ 0 ∷ [])
    ∷ (three 8, 1, 0, 2, apart 2, 2 ∷ 1 ∷ 0 ∷ [])
    ∷ (three 9, 3, 0, 2, no_chain, [])
    ∷ (equals 1, 1, 0, 1, apart 1, 1 ∷ 0 ∷ [])
    ∷ (equals 5, 1, 0, 1, apart 1, 1 ∷ 0 ∷ [])
    ∷ []

abbrev pub MinimumCasesHold : Type 0
MinimumCasesHold = (c : Case) → Memᴰ c minimum_cases → CaseHolds c.0 c.1 c.2 c.3 c.4 c.5
