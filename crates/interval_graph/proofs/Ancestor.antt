-- Ancestors: steps up by parent, in any forest. They do not rise.
-- Vocabulary: ancestor.
-- Assumes nothing.
use Prim.Native.Nat.{ℕ, zero, suc, ◌+◌, ◌-◌, ◌≤◌, ◌<◌}
use mathlib.Core.Path.{◌≡◌, refl, ap}
use native.Mathlib.Omega.{arith}
use Rattle.interval_graph.specs.Forest.{ancestor, Forest}

module _ {parent : ℕ → ℕ} (forest : Forest parent) where
  -- No step up leads to the window itself.
  pub ancestor_zero : (v : ℕ) → ancestor parent 0 v ≡ v
  unfolding ancestor
  ancestor_zero v = refl

  -- One step more leads to the parent.
  pub ancestor_suc : (i v : ℕ) → ancestor parent (suc i) v ≡ parent (ancestor parent i v)
  unfolding ancestor
  ancestor_suc i v = refl

  -- One step up, and then i, are one more than i.
  pub ancestor_parent : (i v : ℕ) → ancestor parent i (parent v) ≡ ancestor parent (suc i) v
  unfolding ancestor
  ancestor_parent zero v = refl
  ancestor_parent (suc i) v = ap parent (ancestor_parent i v)

  -- Steps add up.
  pub ancestor_add : (i j v : ℕ) → ancestor parent (i + j) v ≡ ancestor parent i (ancestor parent j v)
  unfolding ancestor
  ancestor_add zero j v = let e : zero + j ≡ j = omega arith in rw e
  ancestor_add (suc i) j v = let e : suc i + j ≡ suc (i + j) = omega arith in rw e (ap parent (ancestor_add i j v))

  -- An ancestor is at most the window.
  pub ancestor_le : (i v : ℕ) → ancestor parent i v ≤ v
  unfolding ancestor
  ancestor_le zero v = omega arith
  ancestor_le (suc i) v = omega (arith, forest.parent_le (ancestor parent i v), ancestor_le i v)

  -- More steps do not rise.
  pub ancestor_antitone : (i j v : ℕ) → i ≤ j → ancestor parent j v ≤ ancestor parent i v
  ancestor_antitone i j v h =
      let e : j ≡ (j - i) + i = omega arith in rw (e, ancestor_add (j - i) i v) (ancestor_le (j - i) (ancestor parent i v))

  -- An ancestor of a window is a window.
  pub ancestor_below : {n : ℕ} (i v : ℕ) → v < n → ancestor parent i v < n
  ancestor_below i v h = omega (arith, ancestor_le i v)
