-- Depth and root, in any forest: the steps up from a window end at its root, and the depth counts them.
-- Vocabulary: is_root, depth, root.
-- Assumes nothing.
use Prim.Native.Nat.{ℕ, zero, suc, ◌+◌, ◌-◌, ◌≤◌, ◌<◌}
use mathlib.Core.{Bool.true, Bool.false, Path.◌≡◌, Path.refl, Path.sym, Path.ap, Path.◌∙◌, Logic.⊎_elim}
use native.Mathlib.Omega.{arith}
use borrow.Author.Tests.{eqb-true, eqb-false, eq-eqb, ne_eqb}
use Rattle.sequences.proofs.{Tests.lt_or_ge, Search.least_le, Search.least_holds, Search.least_before, Search.least_minimal}
use Rattle.interval_graph.specs.Forest.{is_root, ancestor, depth, root, Forest}
use Rattle.interval_graph.proofs.Ancestor.{ancestor_zero, ancestor_parent, ancestor_add, ancestor_le, ancestor_antitone}

module _ {parent : ℕ → ℕ} (forest : Forest parent) where
  -- A root is its own parent.
  pub root_fixed : (v : ℕ) → is_root parent v ≡ true → parent v ≡ v
  unfolding is_root
  root_fixed v t = eqb-true (parent v) v t

  -- What is its own parent is a root.
  pub fixed_root : (v : ℕ) → parent v ≡ v → is_root parent v ≡ true
  unfolding is_root
  fixed_root v e = eq-eqb (parent v) v e

  -- What has its parent before it is no root.
  pub below_not_root : (v : ℕ) → parent v < v → is_root parent v ≡ false
  unfolding is_root
  below_not_root v h = ne_eqb (parent v) v (λ e. omega arith)

  -- What is no root has its parent before it.
  pub not_root_below : (v : ℕ) → is_root parent v ≡ false → parent v < v
  unfolding is_root
  not_root_below v t = ⊎_elim (λ h. h) (λ h. absurd (eqb-false (parent v) v t (omega (arith, forest.parent_le v)))) (lt_or_ge (parent v) v)

  -- Steps that meet no root lower the position by as many, at least.
  pub ancestor_falls : (i v : ℕ) → ((j : ℕ) → j < i → is_root parent (ancestor parent j v) ≡ false) → ancestor parent i v + i ≤ v
  unfolding ancestor
  ancestor_falls zero v h = omega arith
  ancestor_falls (suc i) v h =
      omega (arith, ancestor_falls i v (λ j g. h j (omega arith)), not_root_below (ancestor parent i v) (h i (omega arith)))

  -- The depth of a window is at most its position.
  pub depth_le : (v : ℕ) → depth parent v ≤ v
  unfolding depth
  depth_le v = least_le (λ i. is_root parent (ancestor parent i v)) v

  -- Below the depth there is no root.
  pub before_depth : (v i : ℕ) → i < depth parent v → is_root parent (ancestor parent i v) ≡ false
  unfolding depth
  before_depth v i h = least_before (λ i. is_root parent (ancestor parent i v)) v i h

  -- A root on the way up is not below the depth.
  pub depth_minimal : (v i : ℕ) → is_root parent (ancestor parent i v) ≡ true → depth parent v ≤ i
  unfolding depth
  depth_minimal v i t = least_minimal (λ i. is_root parent (ancestor parent i v)) v i t

  -- An ancestor up to the depth is lower by as many positions as steps, at least.
  pub ancestor_sum : (i v : ℕ) → i ≤ depth parent v → ancestor parent i v + i ≤ v
  ancestor_sum i v h = ancestor_falls i v (λ j g. before_depth v j (omega arith))

  -- The root is a root.
  pub root_is_root : (v : ℕ) → is_root parent (root parent v) ≡ true
  unfolding root depth
  root_is_root v =
      ⊎_elim (λ h. least_holds (λ i. is_root parent (ancestor parent i v)) v h)
      (λ h. let d : depth parent v ≡ v = omega (arith, depth_le v) in let r = ancestor parent (depth parent v) v in
      let z : parent r ≡ r = omega (arith, ancestor_sum (depth parent v) v (omega arith), forest.parent_le r) in fixed_root r z)
      (lt_or_ge (depth parent v) v)

  -- The root is its own parent.
  pub root_parent : (v : ℕ) → parent (root parent v) ≡ root parent v
  root_parent v = root_fixed (root parent v) (root_is_root v)

  -- Steps from a root stay there.
  pub fixed_stays : (k v : ℕ) → parent v ≡ v → ancestor parent k v ≡ v
  unfolding ancestor
  fixed_stays zero v e = refl
  fixed_stays (suc k) v e = ap parent (fixed_stays k v e) ∙ e

  -- Past the depth the steps stay at the root.
  pub ancestor_past : (v i : ℕ) → depth parent v ≤ i → ancestor parent i v ≡ root parent v
  unfolding root
  ancestor_past v i h =
      let e : i ≡ (i - depth parent v) + depth parent v = omega arith in
      rw e (ancestor_add forest (i - depth parent v) (depth parent v) v ∙ fixed_stays (i - depth parent v) (root parent v) (root_parent v))

  -- A root on the way up is the root.
  pub root_unique : (v i : ℕ) → is_root parent (ancestor parent i v) ≡ true → ancestor parent i v ≡ root parent v
  root_unique v i t = ancestor_past v i (depth_minimal v i t)

  -- The root is at most every ancestor.
  pub root_le_ancestor : (v i : ℕ) → root parent v ≤ ancestor parent i v
  unfolding root
  root_le_ancestor v i =
      ⊎_elim (λ h. ancestor_antitone forest i (depth parent v) v (omega arith))
      (λ h. omega (arith, ancestor_past v i h)) (lt_or_ge i (depth parent v))

  -- The root is at most the window.
  pub root_le : (v : ℕ) → root parent v ≤ v
  unfolding root
  root_le v = ancestor_le forest (depth parent v) v

  -- A window that is its own parent has depth 0.
  pub fixed_depth : (v : ℕ) → parent v ≡ v → depth parent v ≡ 0
  unfolding ancestor
  fixed_depth v e = omega (arith, depth_minimal v 0 (fixed_root v e))

  -- A window that is its own parent is its own root.
  pub fixed_is_root : (v : ℕ) → parent v ≡ v → root parent v ≡ v
  unfolding ancestor
  fixed_is_root v e = sym (root_unique v 0 (fixed_root v e))

  -- A window and its parent have one root.
  pub root_of_parent : (v : ℕ) → root parent (parent v) ≡ root parent v
  root_of_parent v =
      let d = depth parent v in
      let up : ancestor parent d (parent v) ≡ root parent v = ancestor_parent forest d v ∙ ancestor_past v (suc d) (omega arith) in
      sym (root_unique (parent v) d (rw up (root_is_root v))) ∙ up

  -- A window and its ancestors have one root.
  pub root_of_ancestor : (i v : ℕ) → root parent (ancestor parent i v) ≡ root parent v
  unfolding ancestor
  root_of_ancestor zero v = refl
  root_of_ancestor (suc i) v = root_of_parent (ancestor parent i v) ∙ root_of_ancestor i v

  -- A window that is no root is one deeper than its parent.
  pub depth_step : (v : ℕ) → parent v < v → depth parent v ≡ suc (depth parent (parent v))
  depth_step v h =
      let d = depth parent (parent v) in
      let up : ancestor parent (suc d) v ≡ root parent (parent v) = sym (ancestor_parent forest d v) ∙ ancestor_past (parent v) d (omega arith) in
      omega (arith, depth_minimal v (suc d) (rw up (root_is_root (parent v))), at_least (depth parent v) refl)
    where
      at_least : (d : ℕ) → depth parent v ≡ d → suc (depth parent (parent v)) ≤ d
      at_least zero e =
          let r : root parent v ≡ v = sym (ancestor_past v 0 (omega arith)) ∙ ancestor_zero forest v in
          absurd (omega (arith, rw r at (root_parent v)))
      at_least (suc d) e =
          let up : ancestor parent d (parent v) ≡ root parent v = ancestor_parent forest d v ∙ ancestor_past v (suc d) (omega arith) in
          omega (arith, depth_minimal (parent v) d (rw up (root_is_root v)))

  -- Each step up to the depth lowers the depth by one.
  pub depth_ancestor : (i v : ℕ) → i ≤ depth parent v → depth parent (ancestor parent i v) + i ≡ depth parent v
  unfolding ancestor
  depth_ancestor zero v h = omega arith
  depth_ancestor (suc i) v h =
      omega (arith, depth_ancestor i v (omega arith), depth_step (ancestor parent i v) (not_root_below (ancestor parent i v) (before_depth v i (omega arith))))
