-- The parent of a window: the least position whose last is not before it.
-- Vocabulary: parent, last.
-- Assumes nothing.
use Prim.Native.Nat.{ℕ, ◌≤◌, ◌<◌}
use mathlib.Core.{Bool.Bool, Bool.true, Path.◌≡◌, Logic.⊎_elim}
use native.Mathlib.Omega.{arith}
use Rattle.sequences.proofs.{Tests.lt_or_ge, Search.least_le, Search.least_holds, Search.least_minimal}
use Rattle.interval_graph.specs.{Order.IntervalOrder, Forest.Forest, Tree.last, Tree.parent}
use Rattle.interval_graph.proofs.Last.{last_ge, overlap_last, last_overlap}

-- The parent of v is at most v.
pub parent_le : (overlaps : ℕ → ℕ → Bool) (v : ℕ) → parent overlaps v ≤ v
unfolding parent
parent_le overlaps v = least_le (λ u. overlaps u v) v

-- So these parents make a forest.
pub tree : (overlaps : ℕ → ℕ → Bool) → Forest (parent overlaps)
tree overlaps = record { parent_le = parent_le overlaps }

-- The parent of v overlaps v, unless it is v.
pub parent_overlaps : (overlaps : ℕ → ℕ → Bool) (v : ℕ) → parent overlaps v < v → overlaps (parent overlaps v) v ≡ true
unfolding parent
parent_overlaps overlaps v h = least_holds (λ u. overlaps u v) v h

module _ {n : ℕ} {overlaps : ℕ → ℕ → Bool} (ok : IntervalOrder n overlaps) where
  -- The last of the parent of v is not before v.
  pub parent_last : (v : ℕ) → v < n → v ≤ last n overlaps (parent overlaps v)
  parent_last v g =
      ⊎_elim (λ h. overlap_last ok _ v h g (parent_overlaps overlaps v h))
      (λ h. omega (arith, last_ge ok (parent overlaps v))) (lt_or_ge (parent overlaps v) v)

  -- No position before the parent of v has a last that is not before v.
  pub parent_least : (v k : ℕ) → v ≤ last n overlaps k → parent overlaps v ≤ k
  unfolding parent
  parent_least v k h =
      ⊎_elim (λ g. least_minimal (λ u. overlaps u v) v k (last_overlap ok k v g h))
      (λ g. omega (arith, parent_le overlaps v)) (lt_or_ge k v)

  -- A later window's parent is not before an earlier one's.
  pub parent_monotone : (u v : ℕ) → u ≤ v → v < n → parent overlaps u ≤ parent overlaps v
  parent_monotone u v h g = parent_least u (parent overlaps v) (omega (arith, parent_last v g))
