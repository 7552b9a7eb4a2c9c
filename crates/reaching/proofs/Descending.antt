-- The pass forward through a component's levels, over any overlap test in interval order: what is known before each window, and that at the
-- component's end it is what `Deepest` says.
-- Vocabulary: Descent.
-- Assumes nothing.
use Prim.Native.Nat.{ℕ, zero, suc, ◌+◌, ◌-◌, ◌≤◌, ◌<◌}
use mathlib.Core.{Bool.Bool, Path.◌≡◌, Path.refl, Path.sym, Path.ap, Path.◌∙◌, Logic.⊎_elim}
use native.Mathlib.Omega.{arith}
use native.Mathlib.Nat.{le_antisymm}
use Rattle.sequences.proofs.Tests.{lt_or_ge}
use Rattle.interval_graph.specs.{Order.IntervalOrder, Tree.parent, Tree.ancestor, Tree.depth, Tree.root, Reach.last_in_component}
use Rattle.interval_graph.proofs.Ancestor.{ancestor_zero, ancestor_parent, ancestor_add, ancestor_le}
use Rattle.interval_graph.proofs.Depth.{root_le, depth_step, depth_ancestor, root_of_ancestor, fixed_is_root}
use Rattle.interval_graph.proofs.{Component.root_component, Component.component_root, Parent.tree}
use Rattle.interval_graph.proofs.Monotone.{ancestor_monotone, depth_monotone, shallower_earlier, root_between, component_contiguous}
use Rattle.interval_graph.proofs.Reach.{last_in_component_window, last_in_component-component, last_in_component-greatest}
use Rattle.reaching.specs.Passes.{Spine, Deepest}

-- The windows from `from` to `last` are of one component, and so many levels were begun among them, the latest at `first`: it is the first
-- window of its level whose ancestor on the level of `from` is not before `from`, and no window of a deeper level has such an ancestor.
pub record Descent (n : ℕ) (overlaps : ℕ → ℕ → Bool) (from steps first last : ℕ) : Type 0 where
  pub low : from ≤ first
  pub high : first ≤ last
  pub window : last < n
  pub one_root : root overlaps last ≡ root overlaps from
  pub level : depth overlaps first ≡ depth overlaps from + steps
  pub above : from ≤ ancestor overlaps steps first
  pub before : (w : ℕ) → from ≤ w → w < first → depth overlaps w ≡ depth overlaps from + steps → ancestor overlaps steps w < from
  pub none_deeper : (w k : ℕ) → from ≤ w → w ≤ last → depth overlaps w ≡ depth overlaps from + k → from ≤ ancestor overlaps k w → k ≤ steps

module _ {n : ℕ} {overlaps : ℕ → ℕ → Bool} (ok : IntervalOrder n overlaps) (from : ℕ) (spine : Spine n overlaps from) where
  abbrev end : ℕ
  end = last_in_component n overlaps from

  pub descent_start : from < n → Descent n overlaps from 0 from from
  descent_start h =
      record {
        low = omega arith;
        high = omega arith;
        window = h;
        one_root = refl;
        level = omega arith;
        above = omega (arith, ancestor_zero (tree overlaps) from);
        before = λ w l g e. absurd (omega arith);
        none_deeper = λ w k l g e a. let s : w ≡ from = omega arith in omega (arith, ap (depth overlaps) s);
      }

  module _ (steps first last : ℕ) (s : Descent n overlaps from steps first last) where
    last_end : last ≤ end
    last_end = last_in_component-greatest n overlaps from last s.window (root_component (tree overlaps) last from s.one_root)

    end_below : end < n
    end_below = last_in_component_window n overlaps from (omega (arith, s.low, s.high, s.window))

    end_one_root : root overlaps end ≡ root overlaps from
    end_one_root = component_root (tree overlaps) end from (last_in_component-component n overlaps from)

    -- What was passed is of one component.
    passed_root : (w : ℕ) → from ≤ w → w ≤ last → root overlaps w ≡ root overlaps from
    passed_root w l h =
        component_root (tree overlaps) w from
        (component_contiguous ok from w last l h s.window (root_component (tree overlaps) from last (sym s.one_root)))

    -- On each level down to the end's there is a window whose ancestor on the level of `from` is not before `from`.
    on_level : (k : ℕ) → depth overlaps from + k ≤ depth overlaps end → (w : ℕ) × (depth overlaps w ≡ depth overlaps from + k)
        × (from ≤ ancestor overlaps k w) × (root overlaps w ≡ root overlaps from) × (w ≤ end)
    on_level k h =
        let up = depth overlaps end - depth overlaps from - k in let w = ancestor overlaps up end in
        let e : depth overlaps end - depth overlaps from ≡ k + up = omega arith in (
          w,
          omega (arith, depth_ancestor (tree overlaps) up end (omega arith)),
          omega (arith, spine, ap (λ i. ancestor overlaps i end) e, ancestor_add (tree overlaps) k up end),
          root_of_ancestor (tree overlaps) up end ∙ end_one_root,
          ancestor_le (tree overlaps) up end,
        )

    module _ (within : suc last < n) (child : parent overlaps (suc last) < suc last) where
      next_root : root overlaps (suc last) ≡ root overlaps from
      next_root = sym (root_between ok last (suc last) (omega arith) (omega arith) within) ∙ s.one_root

      next_depth : depth overlaps (suc last) ≡ suc (depth overlaps (parent overlaps (suc last)))
      next_depth = depth_step (tree overlaps) (suc last) child

      next_end : suc last ≤ end
      next_end = last_in_component-greatest n overlaps from (suc last) within (root_component (tree overlaps) (suc last) from next_root)

      -- A window whose parent does not stand before the level begins the next.
      module _ (begins : first ≤ parent overlaps (suc last)) where
        parent_root : root overlaps first ≡ root overlaps (parent overlaps (suc last))
        parent_root =
            passed_root first s.low s.high
            ∙ sym (passed_root (parent overlaps (suc last)) (omega (arith, s.low)) (omega arith))

        parent_level : depth overlaps (parent overlaps (suc last)) ≡ depth overlaps from + steps
        parent_level =
            let low = depth_monotone ok first (parent overlaps (suc last)) begins (omega arith) parent_root in
            ⊎_elim (λ l. absurd (deeper l)) (λ l. omega (arith, s.level, low))
            (lt_or_ge (depth overlaps from + steps) (depth overlaps (parent overlaps (suc last))))
          where
            deeper : depth overlaps from + steps < depth overlaps (parent overlaps (suc last)) → ⊥
            deeper l =
                let most = depth_monotone ok (suc last) end next_end end_below (next_root ∙ sym end_one_root) in
                let w = on_level (suc steps) (omega (arith, next_depth)) in
                let early : w.0 < suc last = shallower_earlier ok w.0 (suc last) (omega (arith, w.4, end_below)) (w.3 ∙ sym
                next_root) (omega (arith, w.1, next_depth)) in
                let behind : from ≤ w.0 = omega (arith, w.2, ancestor_le (tree overlaps) (suc steps) w.0) in
                omega (arith, s.none_deeper w.0 (suc steps) behind (omega arith) w.1 w.2)

        pub descent_level : Descent n overlaps from (suc steps) (suc last) (suc last)
        descent_level =
            let up = ancestor_parent (tree overlaps) steps (suc last) in
            let above : from ≤ ancestor overlaps (suc steps) (suc last)
            = omega (arith, s.above, ancestor_monotone ok steps first (parent overlaps (suc last)) begins (omega arith)) in
            record {
              low = omega (arith, s.low, s.high);
              high = omega arith;
              window = within;
              one_root = next_root;
              level = omega (arith, next_depth, parent_level);
              above = above;
              before = λ w l h e. ⊎_elim (λ g. g) (λ g. absurd (omega (arith, s.none_deeper w (suc steps) l (omega arith) e g)))
                  (lt_or_ge (ancestor overlaps (suc steps) w) from);
              none_deeper = λ w k l h e a. ⊎_elim (λ g. omega (arith, s.none_deeper w k l (omega arith) e a))
                  (λ g. let f : w ≡ suc last = omega arith in
                  omega (arith, ap (depth overlaps) f, next_depth, parent_level)) (lt_or_ge w (suc last));
            }

      -- Another does not.
      pub descent_same : parent overlaps (suc last) < first → Descent n overlaps from steps first (suc last)
      descent_same stays =
          record {
            low = s.low;
            high = omega (arith, s.high);
            window = within;
            one_root = next_root;
            level = s.level;
            above = s.above;
            before = s.before;
            none_deeper = λ w k l h e a. ⊎_elim (λ g. s.none_deeper w k l (omega arith) e a)
                (λ g. let f : w ≡ suc last = omega arith in at_next k (rw f at e) (rw f at a)) (lt_or_ge w (suc last));
          }
        where
          at_next : (k : ℕ) → depth overlaps (suc last) ≡ depth overlaps from + k → from ≤ ancestor overlaps k (suc last) → k ≤ steps
          at_next zero e a = omega arith
          at_next (suc j) e a =
              let p = parent overlaps (suc last) in let up = ancestor_parent (tree overlaps) j (suc last) in
              let there : from ≤ ancestor overlaps j p = omega arith in
              let f : depth overlaps p ≡ depth overlaps from + j = omega (arith, next_depth) in
              let low : from ≤ p = omega (arith, ancestor_le (tree overlaps) j p) in
              let most : j ≤ steps = s.none_deeper p j low (omega (arith, s.high)) f there in
              ⊎_elim (λ g. g) (λ g. let i : j ≡ steps = omega arith in
              absurd (omega (arith, s.before p low stays (omega arith), ap (λ i. ancestor overlaps i p) i))) (lt_or_ge j steps)

    -- Where the next window is a root, or there is none, the component ends.
    pub descent_end : (suc last < n → parent overlaps (suc last) ≡ suc last) → Deepest n overlaps from steps first last
    descent_end stops =
        let ends : last ≡ end = le_antisymm last_end (⊎_elim (λ l. absurd (past l)) (λ l. l) (lt_or_ge last end)) in
        let low : depth overlaps from ≤ depth overlaps last
        = depth_monotone ok from last (omega (arith, s.low, s.high)) s.window (sym s.one_root) in
        let under = depth_monotone ok first last s.high s.window (passed_root first s.low s.high ∙ sym s.one_root) in
        let k = depth overlaps last - depth overlaps from in
        let same : depth overlaps end - depth overlaps from ≡ k = rw (← ends) refl in
        let reaches : from ≤ ancestor overlaps k last = rw (same, ← ends) at spine in
        let most : k ≤ steps = s.none_deeper last k (omega (arith, s.low, s.high)) (omega arith) (omega arith) reaches in
        let levels : depth overlaps last ≡ depth overlaps from + steps = omega (arith, s.level) in
        record {
          ends = ends;
          levels = levels;
          low = s.low;
          high = s.high;
          level = s.level ∙ sym levels;
          above = s.above;
          before = λ w l h e. s.before w l h (e ∙ levels);
        }
      where
        past : last < end → ⊥
        past l =
            let c = component_contiguous ok from (suc last) end (omega (arith, s.low, s.high)) l end_below (sym
            (last_in_component-component n overlaps from)) in
            let r = component_root (tree overlaps) (suc last) from c in
            let itself = fixed_is_root (tree overlaps) (suc last) (stops (omega (arith, end_below))) in
            omega (arith, r, itself, root_le (tree overlaps) from, s.low, s.high)
