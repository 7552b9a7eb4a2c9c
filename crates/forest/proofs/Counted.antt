-- Sizes and starts by the children that a pass has met so far. In any forest.
-- Vocabulary: under (is a window a child of another), sizes_from (a size with the children from a position on), starts_to (a start
-- with the children up to a position).
-- Assumes nothing.
use Prim.Native.Nat.{ℕ, suc, ◌+◌, ◌-◌, ◌≤◌, ◌<◌}
use mathlib.Core.{Bool.Bool, Bool.true, Bool.false, Bool.◌&&◌, Path.◌≡◌, Path.refl, Path.sym, Path.ap, Path.◌∙◌, Logic.⊎_elim, List.[]}
use mathlib.Core.{List.◌++◌}
use native.Mathlib.Omega.{arith}
use lib.Dec.{ltb, eqb}
use borrow.Author.Tests.{ltb-true, eqb-true, lt-ltb, eq-eqb}
use Rattle.sequences.specs.Search.{passing}
use Rattle.sequences.specs.Lists.{total}
use Rattle.sequences.proofs.Tests.{truth, and_left, and_right, and_intro}
use Rattle.sequences.proofs.Passing.{passing_true, passing_false, passing_add, passing_none}
use Rattle.sequences.proofs.Lists.{total_append}
use Rattle.interval_graph.specs.Forest.{children, size, earlier_siblings, start, Forest}
use Rattle.interval_graph.proofs.Size.{size_children, start_child}

-- The window c is a child of u.
abbrev pub under : (ℕ → ℕ) → ℕ → ℕ → Bool
under parent u c = ltb u c && eqb (parent c) u

module _ (parent : ℕ → ℕ) where
  under_parent : (v : ℕ) → parent v < v → under parent (parent v) v ≡ true
  under_parent v h = and_intro _ _ (lt-ltb (parent v) v h) (eq-eqb (parent v) (parent v) refl)

  -- A window is under its parent only, and a root under none.
  under_none : (u v : ℕ) → (u < v → u ≡ parent v → ⊥) → under parent u v ≡ false
  under_none u v other =
      ⊎_elim
      (λ t. absurd (other (ltb-true u v (and_left (ltb u v) (eqb (parent v) u) t)) (sym (eqb-true (parent v) u (and_right (ltb u v) (eqb (parent v) u) t)))))
      (λ t. t) (truth (under parent u v))

  -- No child stands at or before its parent.
  none_before : (u k : ℕ) → k ≤ suc u → passing (under parent u) 0 k ≡ []
  none_before u k le = passing_none (under parent u) 0 k (λ i l r. under_none u i (λ h e. omega arith))

module _ (n : ℕ) (parent : ℕ → ℕ) where
  -- 1 and the sizes of u's children from v on.
  abbrev pub sizes_from : ℕ → ℕ → ℕ
  sizes_from v u = suc (total (size n parent) (passing (under parent u) v (n - v)))

  -- Where u's list begins, and the sizes of u's children before v.
  abbrev pub starts_to : ℕ → ℕ → ℕ
  starts_to v u = start n parent u + total (size n parent) (passing (under parent u) 0 v)

module _ (n : ℕ) {parent : ℕ → ℕ} (forest : Forest parent) where
  pub sizes_none : (u : ℕ) → sizes_from n parent n u ≡ 1
  unfolding passing total
  sizes_none u = let e : n - n ≡ 0 = omega arith in rw e

  -- The children of u, before v and from v on.
  children_split : (u v : ℕ) → v ≤ n → children n parent u ≡ passing (under parent u) 0 v ++ passing (under parent u) v (n - v)
  unfolding children
  children_split u v le =
      let e : v + (n - v) ≡ n = omega arith in
      let z : 0 + v ≡ v = omega arith in
      sym (ap (passing (under parent u) 0) e)
      ∙ (passing_add (under parent u) 0 v (n - v) ∙ ap (λ a. passing (under parent u) 0 v ++ passing (under parent u) a (n - v)) z)

  -- A size is what the children from v on give, and the sizes of those before.
  sizes_split : (u v : ℕ) → u < n → v ≤ n → size n parent u ≡ sizes_from n parent v u + total (size n parent) (passing (under parent u) 0 v)
  sizes_split u v h le =
      omega (
        arith,
        size_children n forest u h,
        ap (total (size n parent)) (children_split u v le),
        total_append (size n parent) (passing (under parent u) 0 v) (passing (under parent u) v (n - v)),
      )

  pub sizes_most : (u v : ℕ) → u < n → v ≤ n → sizes_from n parent v u ≤ size n parent u
  sizes_most u v h le = omega (arith, sizes_split u v h le)

  -- All under u stand after it, so its size is known once the pass is at u.
  pub sizes_known : (u v : ℕ) → u < n → v ≤ suc u → v ≤ n → sizes_from n parent v u ≡ size n parent u
  unfolding total
  sizes_known u v h le within = omega (arith, sizes_split u v h within, ap (total (size n parent)) (none_before parent u v le))

  -- One window more, v, from the end: it counts for its parent and for no other.
  module _ (v : ℕ) (h : v < n) where
    width : n - v ≡ suc (n - suc v)
    width = omega arith

    pub sizes_parent : parent v < v → sizes_from n parent v (parent v) ≡ sizes_from n parent (suc v) (parent v) + size n parent v
    unfolding total
    sizes_parent below = rw (width, passing_true (under parent (parent v)) v (n - suc v) (under_parent parent v below)) (omega arith)

    pub sizes_other : (u : ℕ) → (u < v → u ≡ parent v → ⊥) → sizes_from n parent v u ≡ sizes_from n parent (suc v) u
    sizes_other u other = rw (width, passing_false (under parent u) v (n - suc v) (under_none parent u v other))

  -- A child's list begins where its parent's does, behind its earlier siblings.
  pub starts_child : (v : ℕ) → parent v < v → starts_to n parent v (parent v) ≡ start n parent v
  unfolding earlier_siblings
  starts_child v below = sym (start_child n forest v below)

  -- Where a window has no child yet, its next child's list begins where its own does.
  pub starts_own : (v : ℕ) → starts_to n parent (suc v) v ≡ start n parent v
  unfolding total
  starts_own v = omega (arith, ap (total (size n parent)) (none_before parent v (suc v) (omega arith)))

  -- One window more, v, from the front: it counts for its parent and for no other.
  one_more : (p : ℕ → Bool) (v : ℕ) → total (size n parent) (passing p 0 (suc v)) ≡ total (size n parent) (passing p 0 v) + total (size n parent)
      (passing p v 1)
  one_more p v =
      let e : suc v ≡ v + 1 = omega arith in
      let z : 0 + v ≡ v = omega arith in
      ap (λ k. total (size n parent) (passing p 0 k)) e ∙ (ap (total (size n parent)) (passing_add p 0 v 1)
      ∙ (total_append (size n parent) (passing p 0 v) (passing p (0 + v) 1)
      ∙ ap (λ a. total (size n parent) (passing p 0 v) + total (size n parent) (passing p a 1)) z))

  pub starts_parent : (v : ℕ) → parent v < v → starts_to n parent (suc v) (parent v) ≡ starts_to n parent v (parent v) + size n parent v
  unfolding total passing
  starts_parent v below =
      omega (
        arith,
        one_more (under parent (parent v)) v,
        ap (total (size n parent)) (passing_true (under parent (parent v)) v 0 (under_parent parent v below)),
      )

  pub starts_other : (u v : ℕ) → (u < v → u ≡ parent v → ⊥) → starts_to n parent (suc v) u ≡ starts_to n parent v u
  unfolding total passing
  starts_other u v other =
      omega (arith, one_more (under parent u) v, ap (total (size n parent)) (passing_false (under parent u) v 0 (under_none parent u v other)))
