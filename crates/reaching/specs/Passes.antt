-- What the passes behind `reach` are handed and what they find. Nothing here has to be believed: no public promise cites it.
-- Vocabulary: top_of; Spine, Deepest; ComponentFound; FirstApart.
use Rattle.std.specs.Prelude.{ℕ, ◌+◌, ◌-◌, ◌≤◌, ◌<◌}
use mathlib.Core.{Bool.Bool, Path.◌≡◌, List.List}
use Rattle.interval_graph.specs.{Tree.ancestor, Tree.depth, Tree.root, Reach.last_in_component}
use Rattle.plan.specs.File.{window_count}
use Rattle.overlap.specs.Overlap.{overlaps}
use Rattle.minutes.specs.Tables.{last_of}

-- The ancestor of depth 1, or a root itself.
abbrev pub top_of : (ℕ → ℕ → Bool) → ℕ → ℕ
top_of overlaps v = ancestor overlaps (depth overlaps v - 1) v

-- The ancestor of the component's last window on the level of `from` is not before `from`.
abbrev pub Spine : ℕ → (ℕ → ℕ → Bool) → ℕ → Type 0
Spine n overlaps from =
    let end = last_in_component n overlaps from in
    from ≤ ancestor overlaps (depth overlaps end - depth overlaps from) end

-- The component's last window, so many levels below `from`; and the first window on its level whose ancestor on the level of `from` is not
-- before `from`.
pub record Deepest (n : ℕ) (overlaps : ℕ → ℕ → Bool) (from steps first last : ℕ) : Type 0 where
  pub ends : last ≡ last_in_component n overlaps from
  pub levels : depth overlaps last ≡ depth overlaps from + steps
  pub low : from ≤ first
  pub high : first ≤ last
  pub level : depth overlaps first ≡ depth overlaps last
  pub above : from ≤ ancestor overlaps steps first
  pub before : (w : ℕ) → from ≤ w → w < first → depth overlaps w ≡ depth overlaps last → ancestor overlaps steps w < from

-- The component of the window at a position: its root, its levels from there, and the top of its last window.
pub record ComponentFound (file : List ℕ) (at r steps first last top : ℕ) : Type 0 where
  pub rooted : r ≡ root (overlaps file) at
  pub levels : Deepest (window_count file) (overlaps file) r steps first last
  pub topped : top ≡ top_of (overlaps file) last
  pub few : steps ≤ last
  pub low : r ≤ top
  pub high : top ≤ last
  pub window : last < window_count file

-- r is the first window from `from` on whose last is before `top`, or `top`.
pub record FirstApart (file : List ℕ) (from top r : ℕ) : Type 0 where
  pub low : from ≤ r
  pub high : r ≤ top
  pub apart : r < top → last_of file r < top
  pub before : (w : ℕ) → from ≤ w → w < r → top ≤ last_of file w
