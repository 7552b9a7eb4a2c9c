-- How reach is had without looking at pairs. Let L be the last window of a component and d + 1 its depth. From an earlier window the
-- handovers do not fall as the later one moves right, so L has the most. Where some window has its last before the ancestor of L d steps
-- up, the reach is d + 2, with the first such window and the first of L's depth whose ancestor lies behind that last; where none has, it
-- is d + 1, with the root and the first window of that depth. A component of depth 0 is a window alone.
-- Vocabulary: Far, last_in_component, climb.
-- Assumes nothing.
use Prim.Native.Nat.{ℕ, zero, suc, ◌≤◌, ◌<◌}
use mathlib.Core.{Bool.Bool, Path.◌≡◌, Path.refl, Path.sym, Path.ap, Path.◌∙◌, Logic.◌⊎◌, Logic.inl, Logic.inr, Logic.⊎_elim}
use native.Mathlib.Omega.{arith}
use Rattle.sequences.proofs.Tests.{lt_or_ge}
use Rattle.interval_graph.specs.{
  Order.IntervalOrder,
  Tree.last,
  Tree.parent,
  Tree.ancestor,
  Tree.depth,
  Tree.root,
  Tree.component,
  Walk.climb,
}
use Rattle.interval_graph.specs.Reach.{handovers_between, last_in_component}
use Rattle.interval_graph.proofs.{Last.last_ge, Parent.parent_last, Parent.tree}
use Rattle.interval_graph.proofs.Ancestor.{ancestor_zero, ancestor_suc, ancestor_le, ancestor_below}
use Rattle.interval_graph.proofs.Depth.{root_le, root_parent, ancestor_past, fixed_depth, fixed_is_root}
use Rattle.interval_graph.proofs.Component.{root_component, component_root}
use Rattle.interval_graph.proofs.Monotone.{ancestor_monotone, depth_monotone, root_monotone}
use Rattle.interval_graph.proofs.Climb.{climb_le, climb_before, climb_gt, climb_le_depth, climb_le_position}
use Rattle.interval_graph.proofs.{Level.Pair, Level.climb_below_level, Rule.chain_handovers}
use Rattle.interval_graph.proofs.Reach.{last_in_component_window, last_in_component-component, last_in_component-greatest}
use Rattle.interval_graph.proofs.Farthest.{Mates, Far, between_itself}

module _ {n : ℕ} {overlaps : ℕ → ℕ → Bool} (ok : IntervalOrder n overlaps) (at : ℕ) (at_window : at < n) where
  abbrev end : ℕ
  end = last_in_component n overlaps at

  -- The component's first window and its last.
  pub end_window : end < n
  end_window = last_in_component_window n overlaps at at_window

  pub end_root : root overlaps end ≡ root overlaps at
  end_root = component_root (tree overlaps) end at (last_in_component-component n overlaps at)

  module _ (a b : ℕ) (m : Mates n overlaps at a b) where
    mates_root : root overlaps a ≡ root overlaps b
    mates_root = component_root (tree overlaps) a b (m.first_in ∙ sym m.second_in)

    first_after : root overlaps at ≤ a
    first_after = omega (arith, component_root (tree overlaps) a at m.first_in, root_le (tree overlaps) a)

    second_before : b ≤ end
    second_before = last_in_component-greatest n overlaps at b m.window m.second_in

    second_depth : depth overlaps b ≤ depth overlaps end
    second_depth =
        depth_monotone ok b end second_before end_window
        (component_root (tree overlaps) b end (m.second_in ∙ sym (last_in_component-component n overlaps at)))

    -- Two windows have one handover more than the steps up from the later.
    two_climb : a < b → handovers_between n overlaps a b ≡ suc (climb n overlaps a b)
    unfolding handovers_between
    two_climb h = chain_handovers ok a b h m.window mates_root

    -- So handovers say how far up one climbs.
    some_two : (k : ℕ) → handovers_between n overlaps a b ≡ suc k → (a < b) × (climb n overlaps a b ≡ k)
    some_two k e =
        ⊎_elim (λ h. (h, omega (arith, two_climb h)))
        (λ h. let s : b ≡ a = omega (arith, m.order) in
        absurd (omega (arith, ap (handovers_between n overlaps a) s, between_itself ok at a))) (lt_or_ge a b)

  -- What stands from the root to the end is of the component.
  pub between_ends : (v : ℕ) → root overlaps at ≤ v → v ≤ end → component overlaps v ≡ component overlaps at
  between_ends v l h =
      let r = root overlaps at in let e : root overlaps r ≡ r = fixed_is_root (tree overlaps) r (root_parent (tree overlaps) at) in
      root_component (tree overlaps) v at
      (omega (arith, e, end_root, root_monotone ok r v l (omega (arith, end_window)), root_monotone ok v end h end_window))

  -- Where a window has its last before the ancestor of L, d steps up.
  module _ (d u v : ℕ) (deep : depth overlaps end ≡ suc d) (from-root : root overlaps at ≤ u) (apart : last n overlaps u < ancestor
      overlaps d end)
      (first-apart : (w : ℕ) → root overlaps at ≤ w → w < u → ancestor overlaps d end ≤ last n overlaps w) (window : v < n)
      (inside : component overlaps v ≡ component overlaps at) (level : depth overlaps v ≡ suc d) (behind : last n overlaps u < ancestor
      overlaps d v)
      (first-behind : (w : ℕ) → last n overlaps u < w → w < v → depth overlaps w ≡ suc d → ancestor overlaps d w ≤ last n overlaps u) where
    farther : Mates n overlaps at u v
    farther =
        record {
          order = omega (arith, last_ge ok u, ancestor_le (tree overlaps) d v);
          window = window;
          first_in = between_ends u from-root (omega (arith, last_ge ok u, ancestor_le (tree overlaps) d end));
          second_in = inside;
        }

    -- A pair that has d + 2 handovers does not come before this one.
    no_earlier : (a b : ℕ) → Mates n overlaps at a b → handovers_between n overlaps a b ≡ suc (suc d) → (u < a) ⊎ ((u ≡ a) × (v ≤ b))
    no_earlier a b m e =
        let two = some_two a b m (suc d) e in
        let past : last n overlaps a < ancestor overlaps d b = climb_before n overlaps a b d (omega (arith, two.1)) in
        let up : ancestor overlaps d b ≤ ancestor overlaps d end = ancestor_monotone ok d b end (second_before a b m) end_window in
        ⊎_elim (λ l. inl l) (λ l. ⊎_elim (λ g. absurd (omega (arith, first-apart a (first_after a b m) g)))
        (λ g. let s : u ≡ a = omega arith in inr (s, rest b m s past)) (lt_or_ge a u)) (lt_or_ge u a)
      where
        rest : (b : ℕ) → Mates n overlaps at a b → u ≡ a → last n overlaps a < ancestor overlaps d b → v ≤ b
        rest b m s past =
            let same : last n overlaps u ≡ last n overlaps a = ap (last n overlaps) s in
            let deepest : depth overlaps b ≡ suc d = ⊎_elim (λ l. omega (arith, second_depth a b m))
            (λ l. absurd (omega (arith, ancestor_past (tree overlaps) b d l, mates_root a b m, root_le (tree overlaps) a, last_ge ok a)))
            (lt_or_ge d (depth overlaps b)) in
            ⊎_elim (λ l. absurd (omega (arith, first-behind b (omega (arith, ancestor_le (tree overlaps) d b)) l deepest))) (λ l. l)
            (lt_or_ge b v)

    pub far_beyond : Far n overlaps at (suc (suc d)) u v
    far_beyond =
        let r = mates_root u v farther in let h : u < v = omega (arith, last_ge ok u, ancestor_le (tree overlaps) d v) in
        record {
          mates = farther;
          has = let more = climb_gt n overlaps u v d (climb_le_position ok u v r) behind in
              omega (arith, two_climb u v farther h, climb_le_depth ok u v r, more);
          none_more = λ a b m. ⊎_elim
              (λ l. omega (arith, two_climb a b m l, climb_le_depth ok a b (mates_root a b m), second_depth a b m))
              (λ l. let s : b ≡ a = omega (arith, m.order) in omega (arith, ap (handovers_between n overlaps a) s, between_itself ok at a))
              (lt_or_ge a b);
          none_before = no_earlier;
        }

  -- The window d steps up from one of depth d + 1 is a child of the root, and so not behind the root's last.
  below_root : (d v : ℕ) → v < n → depth overlaps v ≡ suc d → ancestor overlaps d v ≤ last n overlaps (root overlaps v)
  below_root d v h e =
      let x = ancestor overlaps d v in
      let top : parent overlaps x ≡ root overlaps v = sym (ancestor_suc (tree overlaps) d v) ∙ ancestor_past (tree overlaps) v (suc d)
      (omega arith) in
      rw top at (parent_last ok x (ancestor_below (tree overlaps) d v h))

  -- Where no window has its last before the ancestor of L.
  module _ (v : ℕ) (none_apart : (d w : ℕ) → depth overlaps end ≡ suc d → root overlaps at ≤ w → ancestor overlaps d end ≤ last n overlaps
      w)
      (from-root : root overlaps at ≤ v) (window : v < n) (inside : component overlaps v ≡ component overlaps at)
      (level : depth overlaps v ≡ depth overlaps end)
      (first-level : (w : ℕ) → root overlaps at ≤ w → w < v → depth overlaps w ≡ depth overlaps end → ⊥) where
    abbrev top : ℕ
    top = root overlaps at

    top_itself : root overlaps top ≡ top
    top_itself = fixed_is_root (tree overlaps) (root overlaps at) (root_parent (tree overlaps) at)

    top_depth : depth overlaps top ≡ 0
    top_depth = fixed_depth (tree overlaps) (root overlaps at) (root_parent (tree overlaps) at)

    near : Mates n overlaps at top v
    near =
        record {
          order = from-root;
          window = window;
          first_in = root_component (tree overlaps) (root overlaps at) at top_itself;
          second_in = inside;
        }

    -- From the root to a window of depth d + 1 there are d + 1 handovers.
    from_top : (d b : ℕ) → Mates n overlaps at top b → depth overlaps b ≡ suc d → handovers_between n overlaps top b ≡ suc d
    from_top d b m e =
        let r = mates_root top b m in
        let h : top < b = ⊎_elim (λ l. l) (λ l. let s : b ≡ top = omega (arith, m.order) in
        absurd (omega (arith, ap (depth overlaps) s, top_depth))) (lt_or_ge top b) in
        let pair : Pair n overlaps top b (suc d) = record {
          order = h;
          window = m.window;
          one_root = r;
          levels = omega (arith, top_depth);
        } in
        let s : root overlaps b ≡ top = sym r ∙ top_itself in
        omega (arith, two_climb top b m h, climb_below_level ok top b d pair (rw s at (below_root d b m.window e)))

    -- A window that is d + 1 handovers from the root has that depth, and does not come before v.
    level_first : (d b : ℕ) → depth overlaps end ≡ suc d → Mates n overlaps at top b → handovers_between n overlaps top b ≡ suc d → v ≤ b
    level_first d b e m s = by_level (depth overlaps b) refl
      where
        by_level : (c : ℕ) → depth overlaps b ≡ c → v ≤ b
        by_level zero f =
            let t : root overlaps b ≡ b = sym (ancestor_past (tree overlaps) b 0 (omega arith)) ∙ ancestor_zero (tree overlaps) b in
            absurd (omega (arith, (some_two top b m d s).0, mates_root top b m, top_itself))
        by_level (suc c) f =
            ⊎_elim (λ l. absurd (first-level b (omega (arith, m.order)) l (omega (arith, from_top c b m f)))) (λ l. l) (lt_or_ge b v)

    -- And so the reach is that.
    pub far_within : Far n overlaps at (depth overlaps end) (root overlaps at) v
    far_within = by-depth (depth overlaps end) refl
      where
        alone : (a b : ℕ) → Mates n overlaps at a b → depth overlaps end ≡ 0 → (a ≡ top) × (b ≡ top)
        alone a b m e =
            let s : end ≡ top = sym (ancestor_zero (tree overlaps) end) ∙ (ancestor_past (tree overlaps) end 0 (omega arith) ∙ end_root) in
            omega (arith, m.order, first_after a b m, second_before a b m)

        by-depth : (D : ℕ) → depth overlaps end ≡ D → Far n overlaps at (depth overlaps end) top v
        by-depth zero e =
            let count : (a b : ℕ) → Mates n overlaps at a b → handovers_between n overlaps a b ≡ 0
            = λ a b m. let s = alone a b m e in let f : b ≡ a = omega (arith, s.0, s.1) in rw f (between_itself ok at a) in
            record {
              mates = near;
              has = omega (arith, count top v near);
              none_more = λ a b m. omega (arith, count a b m);
              none_before = λ a b m s. let own = alone top v near e in let other = alone a b m e in
                  inr (omega (arith, own.1, other.0), omega (arith, own.1, other.1));
            }
        by-depth (suc d) e =
            record {
              mates = near;
              has = omega (arith, from_top d v near (omega arith));
              none_more = λ a b m. ⊎_elim
                  (λ l. let up = ancestor_monotone ok d b end (second_before a b m) end_window in
                  let c = climb_le n overlaps a b d (omega (arith, none_apart d a e (first_after a b m))) in
                  omega (arith, two_climb a b m l))
                  (λ l. let s : b ≡ a = omega (arith, m.order) in
                  omega (arith, ap (handovers_between n overlaps a) s, between_itself ok at a))
                  (lt_or_ge a b);
              none_before = λ a b m s. ⊎_elim (λ l. inl l) (λ l. let t : top ≡ a = omega (arith, first_after a b m) in
                  inr (t, level_first d b e (rw (← t) at m) (rw (← t) at s ∙ e))) (lt_or_ge top a);
            }
