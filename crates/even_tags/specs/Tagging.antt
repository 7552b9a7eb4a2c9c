-- What the passes of this crate are handed. Nothing here has to be believed: no public promise cites it.
-- Vocabulary: short_numbers_in, Numbered, Parented.
use Rattle.std.specs.Prelude.{ℕ, ◌≤◌, ◌<◌, true, ◌≡◌, List, length, get_or}
use Rattle.sequences.specs.Table.{Holds}
use Rattle.interval_graph.specs.Numbers.{Numbers}
use Rattle.plan.specs.AcceptedWindows.{AcceptedWindows}
use Rattle.tag_bytes.specs.Fields.{within_limit}
use Rattle.minutes.specs.Tables.{parent_of}

-- The numbers of the short tag at a position, by the plan's number and three tables.
abbrev pub short_numbers_in : (plan : ℕ) → (components depths ranks : List ℕ) → ℕ → Numbers
short_numbers_in plan components depths ranks v =
    record { plan = plan; component = get_or components v 0; depth = get_or depths v 0; rank = get_or ranks v 0; last = 0 }

-- Three tables of so many entries, none of them too great for a tag.
pub record Numbered (windows plan : ℕ) (components depths ranks : List ℕ) : Type 0 where
  pub components_long : windows ≤ length components
  pub depths_long : windows ≤ length depths
  pub ranks_long : windows ≤ length ranks
  pub fit : (v : ℕ) → v < windows → within_limit (short_numbers_in plan components depths ranks v) ≡ true

-- An accepted plan's file, how many windows it has, and the table of their parents.
pub record Parented (file : List ℕ) (windows : ℕ) (parents : List ℕ) : Type 0 where
  pub accepted : AcceptedWindows file windows
  pub held : Holds parents (parent_of file) windows
