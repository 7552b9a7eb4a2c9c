-- Paper 02, Q-5: reach exactly.
-- Vocabulary: ReachAnswered, ReachExact, Components, ReachBounds.
use Rattle.std.specs.Prelude.{}
use Rattle.std.specs.Prelude.{ℕ, ◌<◌, ◌≤◌}
use mathlib.Core.{Path.◌≡◌, Logic.◌↔◌, List.List}
use Rattle.interval_graph.specs.{Chain.Joined, Chain.LeastHandovers, Tree.component, Reach.Farthest, Reach.reach_bound}
use Rattle.plan.specs.{File.window_count, Validation.AcceptedPlan}
use Rattle.overlap.specs.Overlap.{overlaps}
use Rattle.tag.specs.Pairing.{pair_answer_of}
use Rattle.tag.specs.declared.pairs.PairAnswer.TheVariants as PairAnswer
use Rattle.reaching.specs.Reach.{reach_as, reach_answer_of}
use Rattle.demands.specs.EndToEnd.{tag_at}

-- What is answered of the component of the window `at`.
pub record ReachAnswered (file : List ℕ) (at : ℕ) : Type 0 where
  -- "Reach becomes the greatest number of handovers between two windows of the component. It comes with the first pair that has it, by
  -- smaller position and then by larger." A number and a pair are answered exactly if they are those; and some are.
  pub exact : (k u v : ℕ) → (reach_answer_of file at ≡ reach_as k u v) ↔ Farthest (window_count file) (overlaps file) at k u v
  pub given : (k : ℕ) × (u : ℕ) × (v : ℕ) × (reach_answer_of file at ≡ reach_as k u v)
  -- "A component of one window has reach 0 and its window twice."
  pub alone :
      ((w : ℕ) → Joined (window_count file) (overlaps file) at w → w ≡ at) → reach_answer_of file at ≡ reach_as 0 at at
  -- The pair's two tags say the same number.
  pub from_tags :
      (k u v : ℕ) → reach_answer_of file at ≡ reach_as k u v →
      pair_answer_of (tag_at file u) (tag_at file v) ≡ PairAnswer.Handovers k

abbrev pub ReachExact : Type 0
ReachExact = (file : List ℕ) → AcceptedPlan file → (at : ℕ) → at < window_count file → ReachAnswered file at

-- Paper 01: "A component is a root and all under it." Its windows are those that chains join.
abbrev pub Components : Type 0
Components =
    (file : List ℕ) → AcceptedPlan file → (u v : ℕ) → u < window_count file → v < window_count file →
    Joined (window_count file) (overlaps file) u v ↔ (component (overlaps file) u ≡ component (overlaps file) v)

-- What stays of paper 01's reach, the depth of the component's last window plus 1: "no two windows of the component are more handovers
-- apart than that".
abbrev pub ReachBounds : Type 0
ReachBounds =
    (file : List ℕ) → AcceptedPlan file → (at : ℕ) → at < window_count file →
    (u v k : ℕ) → u < window_count file → v < window_count file →
    component (overlaps file) u ≡ component (overlaps file) at → component (overlaps file) v ≡ component (overlaps file) at →
    LeastHandovers (window_count file) (overlaps file) u v k → k ≤ reach_bound (window_count file) (overlaps file) at
