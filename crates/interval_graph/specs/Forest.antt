-- Paper 01, "Tree", of any function that gives each position a parent at or before it: depth, root, component, post-order and rank.
-- No overlap is asked for; a table of parents gives such a function too. And how ranks are computed without a list: by the numbers
-- of windows under each.
-- Vocabulary: Forest, is_root, ancestor, depth, root, component, children, post_order, rank, size, earlier_siblings, start.
use Rattle.std.specs.Prelude.{ℕ, zero, suc, ◌+◌, ◌≤◌, Bool, ◌&&◌, length, ltb, eqb}
use mathlib.Core.List.{List, [], ◌∷◌, ◌++◌, flat_map}
use Rattle.sequences.specs.Search.{least, count, passing}
use Rattle.sequences.specs.Lists.{index_of, total}

-- All that is asked of a parent function: no parent stands behind its window.
pub record Forest (parent : ℕ → ℕ) : Type 0 where
  pub parent_le : (v : ℕ) → parent v ≤ v

module _ (parent : ℕ → ℕ) where
  -- "A window without one is a root, and the parent table holds its own position."
  unfoldable pub is_root : ℕ → Bool
  is_root v = eqb (parent v) v

  -- i steps up from v.
  unfoldable pub ancestor : ℕ → ℕ → ℕ
  ancestor zero v = v
  ancestor (suc i) v = parent (ancestor i v)

  -- "Depth is the number of steps to the root." (They are at most v, since each step lowers the position.)
  unfoldable pub depth : ℕ → ℕ
  depth v = least (λ i. is_root (ancestor i v)) v

  unfoldable pub root : ℕ → ℕ
  root v = ancestor (depth v) v

  -- "A component is a root and all under it. Components are contiguous in position and numbered from 0 in that
  -- order": the number of v's component is the number of roots before its own.
  unfoldable pub component : ℕ → ℕ
  component v = count is_root (root v)

-- "Rank is the place in post-order within the component, from 0: children in order of position, each with all under it, and then
-- the parent."
module _ (n : ℕ) (parent : ℕ → ℕ) where
  -- The windows whose parent is v, in order of position.
  unfoldable pub children : ℕ → List ℕ
  children v = passing (λ c. ltb v c && eqb (parent c) v) 0 n

  -- v and all under it down to a number of levels: each child with all under it, and then v.
  unfoldable pub post_order_to : ℕ → ℕ → List ℕ
  post_order_to zero v = []
  post_order_to (suc levels) v = flat_map (post_order_to levels) (children v) ++ (v ∷ [])

  -- v and all under it. (A child stands at a greater position than its parent, so there are at most n levels.)
  unfoldable pub post_order : ℕ → List ℕ
  post_order v = post_order_to n v

  -- The place in the post-order of the component's root.
  unfoldable pub rank : ℕ → ℕ
  rank v = index_of v (post_order (root parent v))

  -- The number of windows under v, itself included.
  unfoldable pub size : ℕ → ℕ
  size v = length (post_order v)

  -- The children of c's parent that stand before c.
  unfoldable pub earlier_siblings : ℕ → List ℕ
  earlier_siblings c = passing (λ s. ltb (parent c) s && eqb (parent s) (parent c)) 0 c

  -- The sizes of the earlier siblings of v, of its parent, and so on for so many levels, added up.
  unfoldable pub start_to : ℕ → ℕ → ℕ
  start_to zero v = 0
  start_to (suc levels) v = start_to levels (parent v) + total size (earlier_siblings v)

  -- Where the list of v begins in the list of its root: 0 for a root; for a child where its parent's list begins, plus
  -- the sizes of its earlier siblings. A pass from the front computes it: parent and earlier siblings stand before v,
  -- so a window's place is known, and its children so far are added up, when the next child comes.
  unfoldable pub start : ℕ → ℕ
  start v = start_to (depth parent v) v
