-- The tag file from the tables of its numbers. Nothing here has to be believed: no public promise cites it.
-- Vocabulary: numbers_in, Numbered.
use Rattle.std.specs.Prelude.{ℕ, ◌≤◌, ◌<◌, true, ◌≡◌, List, length, get_or}
use Rattle.interval_graph.specs.Numbers.{Numbers}
use Rattle.tag_bytes.specs.Fields.{within_limit}

-- The five numbers of the window at a position, by the plan's number and four tables.
abbrev pub numbers_in : (plan : ℕ) → (components depths ranks last_ranks : List ℕ) → ℕ → Numbers
numbers_in plan components depths ranks last_ranks v =
    record {
      plan = plan;
      component = get_or components v 0;
      depth = get_or depths v 0;
      rank = get_or ranks v 0;
      last = get_or last_ranks v 0;
    }

-- Four tables of so many entries, none of them too great for a tag.
pub record Numbered (windows plan : ℕ) (components depths ranks last_ranks : List ℕ) : Type 0 where
  pub components_long : windows ≤ length components
  pub depths_long : windows ≤ length depths
  pub ranks_long : windows ≤ length ranks
  pub last_ranks_long : windows ≤ length last_ranks
  pub fit : (v : ℕ) → v < windows → within_limit (numbers_in plan components depths ranks last_ranks v) ≡ true
