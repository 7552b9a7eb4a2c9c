-- Paper 02, Q-7: margin between two windows.
-- Vocabulary: EndsBefore, MarginTold, Margins, MarginTested.
use Rattle.std.specs.Prelude.{Ok}
use Rattle.std.specs.Prelude.{ℕ, ◌+◌, ◌≤◌, ◌<◌, pos, neg_ℤ, ◌-ℤ◌, ◌≤ℤ◌}
use mathlib.Core.{Bool.true, Path.◌≡◌, Logic.◌⊎◌, Logic.◌↔◌, Logic.◌≢◌, List.List}
use Rattle.plan.specs.declared.windows.Window.{Window}
use Rattle.plan.specs.{File.window_count, File.minimum_handover, File.window_at, File.end_of, Validation.AcceptedPlan}
use Rattle.overlap.specs.Overlap.{shared_minutes, overlaps, margin_reaches}
use Rattle.overlap.specs.Margin.{margin_between, margin_answer_of}

-- One window ends so many minutes before another begins; with 0 they touch.
abbrev pub EndsBefore : ℕ → Window → Window → Type 0
EndsBefore gap u v = end_of u + gap ≡ v.offset

-- What the margin says of the windows at u and v. (As whole numbers, m is `pos m` and −m is `neg_ℤ (pos m)`.)
pub record MarginTold (file : List ℕ) (u v : ℕ) : Type 0 where
  -- "From a plan and two positions give the smaller end less the greater offset":
  pub given : margin_answer_of file u v ≡ Ok (margin_between file u v)
  -- "positive minutes shared", the number of those that both cover;
  pub shared : (m : ℕ) → 1 ≤ m → (margin_between file u v ≡ pos m) ↔ (shared_minutes (window_at file u) (window_at file v) ≡ m)
  -- "0 where they touch, and a negative number for the gap."
  pub gap :
      (m : ℕ) → (margin_between file u v ≡ neg_ℤ (pos m))
      ↔ (EndsBefore m (window_at file u) (window_at file v) ⊎ EndsBefore m (window_at file v) (window_at file u))
  -- "A window with itself gives its length."
  pub own : u ≡ v → margin_between file u v ≡ pos (window_at file u).length
  -- "Two different windows overlap just when the margin reaches the minimum."
  pub overlap : u ≢ v → (overlaps file u v ≡ true) ↔ (pos (minimum_handover file) ≤ℤ margin_between file u v)
  -- It is the same in either order.
  pub symmetric : margin_between file u v ≡ margin_between file v u

abbrev pub Margins : Type 0
Margins = (file : List ℕ) → AcceptedPlan file → (u v : ℕ) → u < window_count file → v < window_count file → MarginTold file u v

-- Neighbours, chain and reach ask one question of the end of a window and the offset of a later one, and it is the margin's: whether end
-- less offset reaches the minimum.
abbrev pub MarginTested : Type 0
MarginTested = (minimum end offset : ℕ) → (margin_reaches minimum end offset ≡ true) ↔ (pos minimum ≤ℤ (pos end -ℤ pos offset))
