-- Paper 01, "Tree": last, parent, and the forest of these parents.
-- Vocabulary: last, parent, is_root, ancestor, depth, root, component, rank, last_rank; LastsRise.
use Rattle.std.specs.Prelude.{ℕ, suc, ◌≤◌, ◌<◌, Bool, ◌&&◌, ltb}
use Rattle.sequences.specs.Search.{least, greatest}
use Rattle.interval_graph.specs.Forest as Forest

-- "The last of u is the greatest position that overlaps u, or u itself where no later window does."
unfoldable pub last : ℕ → (ℕ → ℕ → Bool) → ℕ → ℕ
last n overlaps u = greatest (λ w. ltb u w && overlaps u w) n u

-- "The parent of v is the smallest position before v that overlaps v. A window without one is a root, and the
-- parent table holds its own position."
unfoldable pub parent : (ℕ → ℕ → Bool) → ℕ → ℕ
parent overlaps v = least (λ u. overlaps u v) v

-- The forest of these parents, under the names of `Forest`.
abbrev pub is_root : (ℕ → ℕ → Bool) → ℕ → Bool
is_root overlaps = Forest.is_root (parent overlaps)

abbrev pub ancestor : (ℕ → ℕ → Bool) → ℕ → ℕ → ℕ
ancestor overlaps = Forest.ancestor (parent overlaps)

abbrev pub depth : (ℕ → ℕ → Bool) → ℕ → ℕ
depth overlaps = Forest.depth (parent overlaps)

abbrev pub root : (ℕ → ℕ → Bool) → ℕ → ℕ
root overlaps = Forest.root (parent overlaps)

abbrev pub component : (ℕ → ℕ → Bool) → ℕ → ℕ
component overlaps = Forest.component (parent overlaps)

abbrev pub rank : ℕ → (ℕ → ℕ → Bool) → ℕ → ℕ
rank n overlaps = Forest.rank n (parent overlaps)

unfoldable pub last_rank : ℕ → (ℕ → ℕ → Bool) → ℕ → ℕ
last_rank n overlaps v = rank n overlaps (last n overlaps v)

-- Lasts do not fall from one window to the next: all that the short tags of paper 02, Q-1 need beside interval order.
abbrev pub LastsRise : ℕ → (ℕ → ℕ → Bool) → Type 0
LastsRise n overlaps = (v : ℕ) → suc v < n → last n overlaps v ≤ last n overlaps (suc v)
