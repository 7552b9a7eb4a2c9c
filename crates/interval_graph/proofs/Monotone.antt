-- What interval order adds to the forest of parents: parents, ancestors and roots keep the order of positions; in one component a
-- later window is at least as deep (level order), and the last of a window is on its level or one below; components are contiguous.
-- Vocabulary: ancestor, root, depth, component, last.
-- Assumes nothing.
use Prim.Native.Nat.{ℕ, zero, suc, ◌+◌, ◌-◌, ◌≤◌, ◌<◌}
use mathlib.Core.{Bool.Bool, Bool.true, Bool.false, Path.◌≡◌, Path.sym, Path.◌∙◌, Logic.◌⊎◌, Logic.inl, Logic.inr, Logic.⊎_elim}
use native.Mathlib.Omega.{arith}
use Rattle.sequences.specs.Search.{count}
use Rattle.sequences.proofs.{Tests.lt_or_ge, Tests.truth, Search.count_true, Search.count_false, Search.count_none}
use Rattle.interval_graph.specs.Order.{IntervalOrder}
use Rattle.interval_graph.specs.Tree.{last, parent, is_root, ancestor, depth, root, component}
use Rattle.interval_graph.specs.Forest as Forest
use Rattle.interval_graph.proofs.Ancestor.{ancestor_below}
use Rattle.interval_graph.proofs.Depth.{ancestor_past, depth_minimal, depth_step, fixed_depth, fixed_is_root, root_fixed}
use Rattle.interval_graph.proofs.Depth.{root_is_root, root_le, root_le_ancestor, root_of_parent}
use Rattle.interval_graph.proofs.Component.{component_rises, root_component}
use Rattle.interval_graph.proofs.Last.{last_below, last_ge, neighbour_le_last, overlap_last}
use Rattle.interval_graph.proofs.Parent.{parent_le, parent_least, parent_monotone, tree}

module _ {n : ℕ} {overlaps : ℕ → ℕ → Bool} (ok : IntervalOrder n overlaps) where
  -- A later window's ancestor is not before an earlier one's, as many steps up.
  pub ancestor_monotone : (i u v : ℕ) → u ≤ v → v < n → ancestor overlaps i u ≤ ancestor overlaps i v
  unfolding Forest.ancestor
  ancestor_monotone zero u v h g = h
  ancestor_monotone (suc i) u v h g =
      parent_monotone ok (ancestor overlaps i u) (ancestor overlaps i v) (ancestor_monotone i u v h g)
      (ancestor_below (tree overlaps) i v g)

  -- A later window's root is not before an earlier one's.
  pub root_monotone : (u v : ℕ) → u ≤ v → v < n → root overlaps u ≤ root overlaps v
  root_monotone u v h g =
      let k = depth overlaps u + depth overlaps v in
      omega (arith, ancestor_past (tree overlaps) u k (omega arith), ancestor_past (tree overlaps) v k (omega arith), ancestor_monotone k u v h g)

  -- Level order: in one component a later window is at least as deep.
  pub depth_monotone : (u v : ℕ) → u ≤ v → v < n → root overlaps u ≡ root overlaps v → depth overlaps u ≤ depth overlaps v
  depth_monotone u v h g e =
      let k = depth overlaps v in let past = ancestor_past (tree overlaps) v k (omega arith) in
      let up : ancestor overlaps k u ≡ root overlaps u = omega (arith, root_le_ancestor (tree overlaps) u k, ancestor_monotone k u v h g, past) in
      depth_minimal (tree overlaps) u k (rw up (root_is_root (tree overlaps) u))

  -- In one component the less deep of two windows is the earlier.
  pub shallower_earlier : (u v : ℕ) → u < n → root overlaps u ≡ root overlaps v → depth overlaps u < depth overlaps v → u < v
  shallower_earlier u v g e h = ⊎_elim (λ l. l) (λ l. absurd (omega (arith, depth_monotone v u l g (sym e)))) (lt_or_ge u v)

  -- What stands between a window's parent and the window is in its component.
  pub root_between : (u v : ℕ) → parent overlaps v ≤ u → u ≤ v → v < n → root overlaps u ≡ root overlaps v
  root_between u v h l g =
      omega (arith, root_of_parent (tree overlaps) v, root_monotone (parent overlaps v) u h (omega arith), root_monotone u v l g)

  -- The last of a window is in its component.
  pub last_root : (u : ℕ) → u < n → root overlaps (last n overlaps u) ≡ root overlaps u
  last_root u g =
      sym (root_between u (last n overlaps u) (parent_least ok (last n overlaps u) u (omega arith)) (last_ge ok u) (last_below ok u g))

  -- The last of a window is at least as deep.
  pub last_depth_ge : (u : ℕ) → u < n → depth overlaps u ≤ depth overlaps (last n overlaps u)
  last_depth_ge u g = depth_monotone u (last n overlaps u) (last_ge ok u) (last_below ok u g) (sym (last_root u g))

  -- The last of a window is at most one deeper.
  pub last_depth_le : (u : ℕ) → u < n → depth overlaps (last n overlaps u) ≤ suc (depth overlaps u)
  last_depth_le u g =
      let z = last n overlaps u in
      let up = depth_monotone (parent overlaps z) u (parent_least ok z u (omega arith)) g (root_of_parent (tree overlaps) z ∙ last_root u g) in
      ⊎_elim (λ h. omega (arith, depth_step (tree overlaps) z h))
      (λ h. omega (arith, fixed_depth (tree overlaps) z (omega (arith, parent_le overlaps z)))) (lt_or_ge (parent overlaps z) z)

  -- Windows that overlap are in one component.
  pub overlap_root : (u v : ℕ) → u < n → v < n → overlaps u v ≡ true → root overlaps u ≡ root overlaps v
  overlap_root u v l g t =
      ⊎_elim (λ h. root_between u v (parent_least ok v u (overlap_last ok u v h g t)) (omega arith) g)
      (λ h. sym (root_between v u (parent_least ok u v (neighbour_le_last ok v u l (ok.symmetric v u ∙ t))) h l)) (lt_or_ge u v)

  -- The component of v is one less than the number of roots up to v.
  pub component_roots : (v : ℕ) → v < n → count (is_root overlaps) (suc v) ≡ suc (component overlaps v)
  unfolding Forest.component
  component_roots v g =
      let r = root overlaps v in let e : suc v ≡ suc r + (v - r) = omega (arith, root_le (tree overlaps) v) in
      rw e (count_none (is_root overlaps) (suc r) (v - r) none ∙ count_true (is_root overlaps) r (root_is_root (tree overlaps) v))
    where
      none : (i : ℕ) → suc (root overlaps v) ≤ i → i < suc (root overlaps v) + (v - root overlaps v) → is_root overlaps i ≡ false
      none i l h =
          ⊎_elim
          (λ t. absurd (omega (arith, root_monotone i v (omega arith) g, fixed_is_root (tree overlaps) i (root_fixed (tree overlaps) i t))))
          (λ f. f) (truth (is_root overlaps i))

  -- The next position is in the next component if it is a root.
  pub component_next_root : (v : ℕ) → suc v < n → is_root overlaps (suc v) ≡ true → component overlaps (suc v) ≡ suc (component overlaps v)
  component_next_root v g t =
      omega (arith, component_roots v (omega arith), component_roots (suc v) g, count_true (is_root overlaps) (suc v) t)

  -- The next position is in the same component if it is no root.
  pub component_next_same : (v : ℕ) → suc v < n → is_root overlaps (suc v) ≡ false → component overlaps (suc v) ≡ component overlaps v
  component_next_same v g t =
      omega (arith, component_roots v (omega arith), component_roots (suc v) g, count_false (is_root overlaps) (suc v) t)

  -- The next position is in the same component or in the next.
  pub component_next : (v : ℕ) → suc v < n → (component overlaps (suc v) ≡ component overlaps v) ⊎ (component overlaps (suc v) ≡ suc (component overlaps v))
  component_next v g =
      ⊎_elim (λ t. inr (component_next_root v g t)) (λ t. inl (component_next_same v g t)) (truth (is_root overlaps (suc v)))

  -- Components do not fall from position to position.
  pub component_monotone : (u v : ℕ) → u ≤ v → v < n → component overlaps u ≤ component overlaps v
  component_monotone u v h g =
      ⊎_elim (λ l. omega (arith, component_rises (tree overlaps) u v l))
      (λ l. omega (arith, root_component (tree overlaps) u v (omega (arith, root_monotone u v h g))))
      (lt_or_ge (root overlaps u) (root overlaps v))

  -- What stands between two windows of one component is in it.
  pub component_contiguous : (u w v : ℕ) → u ≤ w → w ≤ v → v < n → component overlaps u ≡ component overlaps v → component overlaps w ≡ component overlaps u
  component_contiguous u w v l h g e = omega (arith, component_monotone u w l (omega arith), component_monotone w v h g)
