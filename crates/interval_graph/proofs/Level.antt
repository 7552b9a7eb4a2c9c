-- How far one climbs, told by levels. For u before v in one component, w the ancestor of v on u's level, D steps up:
-- where u stands before w, it is D steps if w is at most the last of u, and else one more; where not, it is one less if
-- the ancestor below w is at most the last of u, and else D. And ranks tell which.
-- Vocabulary: climb, last, rank.
-- Assumes nothing.
use Prim.Native.Nat.{ℕ, zero, suc, ◌+◌, ◌≤◌, ◌<◌}
use mathlib.Core.{Bool.Bool, Bool.◌&&◌, Bool.◌||◌, Path.◌≡◌, Path.sym, Path.ap, Path.◌∙◌, Logic.◌⊎◌, Logic.inl, Logic.inr, Logic.⊎_elim}
use native.Mathlib.Omega.{arith}
use lib.Dec.{ltb, leb}
use borrow.Author.Tests.{lt-ltb, le-ltb, le-leb, lt-leb}
use Rattle.sequences.proofs.Tests.{lt_or_ge, and_true_right, and_false_right, or_false_right, or_right}
use Rattle.interval_graph.specs.Order.{IntervalOrder}
use Rattle.interval_graph.specs.{Tree.last, Tree.parent, Tree.ancestor, Tree.depth, Tree.root, Tree.rank, Walk.climb}
use Rattle.interval_graph.proofs.{Last.last_ge, Last.last_below, Parent.parent_le, Parent.parent_least, Parent.tree}
use Rattle.interval_graph.proofs.Ancestor.{ancestor_zero, ancestor_suc, ancestor_le, ancestor_below}
use Rattle.interval_graph.proofs.Monotone.{shallower_earlier, last_root, last_depth_ge, last_depth_le}
use Rattle.interval_graph.proofs.Depth.{root_le, depth_step, depth_ancestor, fixed_is_root, root_of_parent, root_of_ancestor}
use Rattle.interval_graph.proofs.{Climb.climb_le, Climb.climb_gt, Climb.climb_le_position, Before.rank_lt_iff, Rank.rank_injective}

-- u before v in one component, v deeper by D.
pub record Pair (n : ℕ) (overlaps : ℕ → ℕ → Bool) (u v D : ℕ) : Type 0 where
  pub order : u < v
  pub window : v < n
  pub one_root : root overlaps u ≡ root overlaps v
  pub levels : depth overlaps v ≡ depth overlaps u + D

module _ {n : ℕ} {overlaps : ℕ → ℕ → Bool} (ok : IntervalOrder n overlaps) where
  -- An ancestor of v that is no higher than u is as much deeper than u as steps are left of the D, and has u's root.
  level_depth : (u v D i k : ℕ) → Pair n overlaps u v D → D ≡ i + k → depth overlaps (ancestor overlaps i v) ≡ depth overlaps u + k
  level_depth u v D i k p e = omega (arith, depth_ancestor (tree overlaps) i v (omega (arith, p.levels)), p.levels)

  level_root : (u v D i : ℕ) → Pair n overlaps u v D → root overlaps (ancestor overlaps i v) ≡ root overlaps u
  level_root u v D i p = root_of_ancestor (tree overlaps) i v ∙ sym p.one_root

  -- An ancestor of v that is deeper than the last of u stands behind it.
  level_behind : (u v D i k : ℕ) → Pair n overlaps u v D → D ≡ i + k → depth overlaps (last n overlaps u) < depth overlaps u + k →
      last n overlaps u < ancestor overlaps i v
  level_behind u v D i k p e h =
      shallower_earlier ok (last n overlaps u) (ancestor overlaps i v) (last_below ok u (omega (arith, p.order, p.window)))
      (last_root ok u (omega (arith, p.order, p.window)) ∙ sym (level_root u v D i p)) (omega (arith, level_depth u v D i k p e))

  -- Where u stands before w, the parent of w is not behind u.
  pub parent_before : (u v D : ℕ) → Pair n overlaps u v D → u < ancestor overlaps D v → parent overlaps (ancestor overlaps D v) ≤ u
  parent_before u v D p h =
      let w = ancestor overlaps D v in let r = level_root u v D D p in let d = level_depth u v D D 0 p (omega arith) in
      let b : parent overlaps w < n = omega (arith, parent_le overlaps w, ancestor_le (tree overlaps) D v, p.window) in
      ⊎_elim (λ l. let s = root_of_parent (tree overlaps) w ∙ r in
      omega (arith, shallower_earlier ok (parent overlaps w) u b s (omega (arith, depth_step (tree overlaps) w l, d))))
      (λ l. absurd (omega (arith, fixed_is_root (tree overlaps) w (omega (arith, parent_le overlaps w)), r, root_le (tree overlaps) u)))
      (lt_or_ge (parent overlaps w) w)

  -- climb

  -- Where u stands before w, and w is at most the last of u, one climbs D steps.
  pub climb_at_level : (u v D : ℕ) → Pair n overlaps u v D → u < ancestor overlaps D v → ancestor overlaps D v ≤ last n overlaps u → climb n overlaps u v ≡ D
  climb_at_level u v zero p h g = omega (arith, climb_le n overlaps u v 0 g)
  climb_at_level u v (suc D) p h g =
      let x = ancestor overlaps D v in
      ⊎_elim (λ l. omega (arith, climb_le n overlaps u v (suc D) g, climb_gt n overlaps u v D (climb_le_position ok u v p.one_root) l))
      (λ l. absurd (omega (arith, parent_least ok x u l, ancestor_suc (tree overlaps) D v))) (lt_or_ge (last n overlaps u) x)

  -- Where u stands before w, and w is behind the last of u, one climbs D + 1 steps.
  pub climb_past_level : (u v D : ℕ) → Pair n overlaps u v D → u < ancestor overlaps D v → last n overlaps u < ancestor overlaps D v →
      climb n overlaps u v ≡ suc D
  climb_past_level u v D p h g =
      let above : parent overlaps (ancestor overlaps D v) ≤ u = parent_before u v D p h in
      let enough = climb_le n overlaps u v (suc D) (omega (arith, ancestor_suc (tree overlaps) D v, last_ge ok u)) in
      omega (arith, climb_gt n overlaps u v D (climb_le_position ok u v p.one_root) g, enough)

  -- Where the ancestor below w is at most the last of u, one climbs one step less than to w.
  pub climb_below_level : (u v D : ℕ) → Pair n overlaps u v (suc D) → ancestor overlaps D v ≤ last n overlaps u → climb n overlaps u v ≡ D
  climb_below_level u v zero p g = omega (arith, climb_le n overlaps u v 0 g)
  climb_below_level u v (suc D) p g =
      let d = last_depth_le ok u (omega (arith, p.order, p.window)) in
      let b = level_behind u v (suc (suc D)) D 2 p (omega arith) (omega (arith, d)) in
      omega (arith, climb_le n overlaps u v (suc D) g, climb_gt n overlaps u v D (climb_le_position ok u v p.one_root) b)

  -- Where w is not behind u, and the ancestor below w is behind the last of u, one climbs to w.
  pub climb_to_level : (u v D : ℕ) → Pair n overlaps u v (suc D) → ancestor overlaps (suc D) v ≤ u →
      last n overlaps u < ancestor overlaps D v → climb n overlaps u v ≡ suc D
  climb_to_level u v D p h g =
      omega (arith, climb_gt n overlaps u v D (climb_le_position ok u v p.one_root) g, climb_le n overlaps u v (suc D) (omega (arith, last_ge ok u)))

  -- rank of the last

  -- The last of u is on u's level or one level deeper.
  pub last_level : (u : ℕ) → u < n → (depth overlaps (last n overlaps u) ≡ depth overlaps u) ⊎ (depth overlaps (last n overlaps u) ≡ suc (depth overlaps u))
  last_level u h =
      ⊎_elim (λ l. inr (omega (arith, last_depth_le ok u h))) (λ l. inl (omega (arith, last_depth_ge ok u h)))
      (lt_or_ge (depth overlaps u) (depth overlaps (last n overlaps u)))

  -- A last on the window's own level has no smaller rank than the window.
  pub last_rank_level : (u : ℕ) → u < n → depth overlaps (last n overlaps u) ≡ depth overlaps u → rank n overlaps u ≤ rank n overlaps (last n overlaps u)
  last_rank_level u h e =
      let z = last n overlaps u in let less = rank_lt_iff ok z u 0 (last_below ok u h) h (last_root ok u h) (omega arith) in
      ⊎_elim (λ l. absurd (omega (arith, less.0 l, ancestor_zero (tree overlaps) u, last_ge ok u))) (λ l. l)
      (lt_or_ge (rank n overlaps z) (rank n overlaps u))

  -- A last one level deeper has a smaller rank than the window.
  pub last_rank_deeper : (u : ℕ) → u < n → depth overlaps (last n overlaps u) ≡ suc (depth overlaps u) → rank n overlaps (last n overlaps u) < rank n overlaps u
  last_rank_deeper u h e =
      let z = last n overlaps u in let b = last_below ok u h in let r = sym (last_root ok u h) in
      let up = ap (parent overlaps) (ancestor_zero (tree overlaps) z) in ⊎_elim (λ l. l) (λ l. absurd (⊎_elim
      (λ m. omega (arith, (rank_lt_iff ok u z 1 h b r (omega arith)).0 m, ancestor_suc (tree overlaps) 0 z, up, parent_least ok z u (omega arith)))
      (λ m. let s : u ≡ z = rank_injective n (tree overlaps) u z h b r (omega arith) in omega (arith, ap (depth overlaps) s))
      (lt_or_ge (rank n overlaps u) (rank n overlaps z)))) (lt_or_ge (rank n overlaps z) (rank n overlaps u))

  -- ranks tell

  -- Of windows z and v in one component, v deeper by k, v has no greater rank exactly if its k-th ancestor is not
  -- behind z.
  rank_leb : (z v k : ℕ) → z < n → v < n → root overlaps z ≡ root overlaps v → depth overlaps v ≡ depth overlaps z + k →
      leb (rank n overlaps v) (rank n overlaps z) ≡ leb (ancestor overlaps k v) z
  rank_leb z v k h g e d =
      let less = rank_lt_iff ok z v k h g e d in let i = rank n overlaps v in let j = rank n overlaps z in let a = ancestor overlaps k v in
      ⊎_elim (λ l. lt-leb i j (less.1 l) ∙ sym (lt-leb a z l))
      (λ l. le-leb i j (⊎_elim (λ m. absurd (omega (arith, less.0 m))) (λ m. m) (lt_or_ge j i)) ∙ sym (le-leb a z l)) (lt_or_ge z a)

  -- Whether w is at most the last of u.
  pub ranks_at_level : (u v D : ℕ) → Pair n overlaps u v D →
      (leb (rank n overlaps v) (rank n overlaps (last n overlaps u)) || ltb (rank n overlaps (last n overlaps u)) (rank n overlaps u))
      ≡ leb (ancestor overlaps D v) (last n overlaps u)
  ranks_at_level u v D p =
      let z = last n overlaps u in let h : u < n = omega (arith, p.order, p.window) in
      let s = leb (rank n overlaps v) (rank n overlaps z) in let t = ltb (rank n overlaps z) (rank n overlaps u) in
      ⊎_elim (λ e. or_false_right s t (le-ltb (rank n overlaps z) (rank n overlaps u) (last_rank_level u h e))
      ∙ rank_leb z v D (last_below ok u h) p.window (last_root ok u h ∙ p.one_root) (omega (arith, p.levels)))
      (λ e. or_right s t (lt-ltb (rank n overlaps z) (rank n overlaps u) (last_rank_deeper u h e))
      ∙ sym (le-leb (ancestor overlaps D v) z (omega (arith, level_before u v D p h e)))) (last_level u h)
    where
      level_before : (u v D : ℕ) → Pair n overlaps u v D → u < n → depth overlaps (last n overlaps u) ≡ suc (depth overlaps u) →
          ancestor overlaps D v < last n overlaps u
      level_before u v D p h e =
          shallower_earlier ok (ancestor overlaps D v) (last n overlaps u) (ancestor_below (tree overlaps) D v p.window)
          (level_root u v D D p ∙ sym (last_root ok u h)) (omega (arith, level_depth u v D D 0 p (omega arith)))

  -- Whether the ancestor below w is at most the last of u.
  pub ranks_below_level : (u v D : ℕ) → Pair n overlaps u v (suc D) →
      (leb (rank n overlaps v) (rank n overlaps (last n overlaps u)) && ltb (rank n overlaps (last n overlaps u)) (rank n overlaps u))
      ≡ leb (ancestor overlaps D v) (last n overlaps u)
  ranks_below_level u v D p =
      let z = last n overlaps u in let h : u < n = omega (arith, p.order, p.window) in
      let s = leb (rank n overlaps v) (rank n overlaps z) in let t = ltb (rank n overlaps z) (rank n overlaps u) in
      ⊎_elim (λ e. and_false_right s t (le-ltb (rank n overlaps z) (rank n overlaps u) (last_rank_level u h e))
      ∙ sym (lt-leb (ancestor overlaps D v) z (level_behind u v (suc D) D 1 p (omega arith) (omega arith))))
      (λ e. and_true_right s t (lt-ltb (rank n overlaps z) (rank n overlaps u) (last_rank_deeper u h e))
      ∙ rank_leb z v D (last_below ok u h) p.window (last_root ok u h ∙ p.one_root) (omega (arith, p.levels))) (last_level u h)
