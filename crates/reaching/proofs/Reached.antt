-- Reach from what the passes find: first the component's root and its last window, then the two cases, each the one pair that the
-- definition finds; and the answer after each test of the call.
-- Vocabulary: Whole.
-- Assumes nothing.
use Prim.Native.Nat.{ℕ, zero, suc, ◌+◌, ◌-◌, ◌≤◌, ◌<◌}
use mathlib.Core.{Bool.Bool, Path.◌≡◌, Path.refl, Path.sym, Path.ap, Path.◌∙◌, Logic.⊎_elim, List.List}
use native.Mathlib.Omega.{arith}
use native.Mathlib.Nat.{le_antisymm}
use lib.ListN.{length, get_or}
use borrow.Author.Tests.{le-ltb}
use Rattle.sequences.specs.Table.{Holds}
use Rattle.sequences.proofs.Tests.{lt_or_ge}
use Rattle.interval_graph.specs.Tree as Tree
use Rattle.interval_graph.specs.{Order.IntervalOrder, Tree.parent, Tree.ancestor, Tree.depth, Tree.root, Tree.component}
use Rattle.interval_graph.specs.Reach.{last_in_component}
use Rattle.interval_graph.proofs.{Last.last_ge, Parent.parent_le, Parent.tree}
use Rattle.interval_graph.proofs.Ancestor.{ancestor_zero, ancestor_suc, ancestor_le}
use Rattle.interval_graph.proofs.Depth.{
  depth_le,
  root_le,
  root_parent,
  root_le_ancestor,
  ancestor_past,
  depth_ancestor,
  root_of_ancestor,
  fixed_is_root,
  fixed_depth,
}
use Rattle.interval_graph.proofs.Component.{root_component, component_root}
use Rattle.interval_graph.proofs.Monotone.{depth_monotone}
use Rattle.interval_graph.proofs.Reach.{last_in_component_window, last_in_component-component, last_in_component-greatest}
use Rattle.interval_graph.proofs.Farthest.{Far, far_unique, reach_far}
use Rattle.interval_graph.proofs.Greatest.{end_window, end_root, between_ends, far_beyond, far_within}
use Rattle.std.specs.Prelude.{Some, None, Result, Err}
use Rattle.std.proofs.lemmas.Grind.{common_steps}
use Rattle.refusals.specs.declared.refusal.Refusal.{Refusal}
use Rattle.refusals.specs.Question.{refusal_by, position_question}
use Rattle.plan.specs.declared.questions.Accepted.{Accepted}
use Rattle.plan.specs.{File.window_count, Validation.AcceptedPlan, Validation.validate_answer_of}
use Rattle.overlap.specs.Overlap.{overlaps}
use Rattle.plan.specs.AcceptedWindows.{AcceptedWindows}
use Rattle.plan.proofs.Calls.{plan_refused, one_more_no}
use Rattle.plan.proofs.Acceptance.{accepted_validated}
use Rattle.overlap.proofs.InOrder.{interval_order}
use Rattle.minutes.specs.Tables.{last_of, parent_of}
use Rattle.minutes.specs.Rooted.{above}
use Rattle.reaching.specs.Passes.{top_of, Spine, Deepest, ComponentFound, FirstApart}
use Rattle.reaching.specs.Reach.{reach_questions, reach_in, reach_of, reach_answer_of}
use Rattle.reaching.proofs.Topping.{Upward, ParentsOf}

-- What a pass from the root of at's component finds: the depth of the component's last window, and the first window as deep.
pub record Whole (n : ℕ) (overlaps : ℕ → ℕ → Bool) (at steps deep last : ℕ) : Type 0 where
  pub ends : last ≡ last_in_component n overlaps at
  pub counted : depth overlaps last ≡ steps
  pub below : last < n
  pub low : root overlaps at ≤ deep
  pub high : deep ≤ last
  pub level : depth overlaps deep ≡ depth overlaps last
  pub none : (w : ℕ) → root overlaps at ≤ w → w < deep → depth overlaps w ≡ depth overlaps last → ⊥

-- over any overlap test in interval order

module _ {n : ℕ} {overlaps : ℕ → ℕ → Bool} (ok : IntervalOrder n overlaps) where
  -- The parent of the ancestor of depth 1, or of a root, is the root.
  top_parent : (v : ℕ) → parent overlaps (top_of overlaps v) ≡ root overlaps v
  top_parent v = by-depth (depth overlaps v) refl
    where
      by-depth : (d : ℕ) → depth overlaps v ≡ d → parent overlaps (ancestor overlaps (d - 1) v) ≡ root overlaps v
      by-depth zero e =
          let r : ancestor overlaps 0 v ≡ root overlaps v = ancestor_past (tree overlaps) v 0 (omega arith) in
          rw r (root_parent (tree overlaps) v)
      by-depth (suc d) e =
          let same : suc d - 1 ≡ d = omega arith in
          rw same (sym (ancestor_suc (tree overlaps) d v) ∙ ancestor_past (tree overlaps) v (suc d) (omega arith))

  -- Windows of one component have one last in it.
  same_end : (u v : ℕ) → u < n → v < n → component overlaps u ≡ component overlaps v → last_in_component n overlaps u ≡ last_in_component n
      overlaps v
  same_end u v h g e =
      le_antisymm
      (last_in_component-greatest n overlaps v _ (last_in_component_window n overlaps u h) (last_in_component-component n overlaps u ∙ e))
      (last_in_component-greatest n overlaps u _ (last_in_component_window n overlaps v g) (last_in_component-component n overlaps v ∙ sym e))

  module _ (at : ℕ) (window : at < n) where
    abbrev first : ℕ
    first = root overlaps at

    abbrev end : ℕ
    end = last_in_component n overlaps at

    first_itself : root overlaps first ≡ first
    first_itself = fixed_is_root (tree overlaps) first (root_parent (tree overlaps) at)

    first_depth : depth overlaps first ≡ 0
    first_depth = fixed_depth (tree overlaps) first (root_parent (tree overlaps) at)

    first_window : first < n
    first_window = omega (arith, root_le (tree overlaps) at)

    first_end : last_in_component n overlaps first ≡ end
    first_end = same_end first at first_window window (root_component (tree overlaps) first at first_itself)

    -- A pass may begin at the root.
    pub root_spine : Spine n overlaps first
    root_spine =
        let k = depth overlaps (last_in_component n overlaps first) - depth overlaps first in
        let r : root overlaps (last_in_component n overlaps first) ≡ first = rw first_end (end_root ok at window) in
        omega (arith, root_le_ancestor (tree overlaps) (last_in_component n overlaps first) k)

    pub whole_found : (steps deep last : ℕ) → Deepest n overlaps first steps deep last → Whole n overlaps at steps deep last
    whole_found steps deep last d =
        let ends : last ≡ end = d.ends ∙ first_end in let below : last < n = rw ends (end_window ok at window) in
        record {
          ends = ends;
          counted = omega (arith, d.levels, first_depth);
          below = below;
          low = d.low;
          high = d.high;
          level = d.level;
          none = λ w l h e.
              let inside = between_ends ok at window w l (omega (arith, d.high, ends)) in
              omega (arith, d.before w l h e, root_le_ancestor (tree overlaps) w steps, component_root (tree overlaps) w at inside);
        }

    module _ (steps deep last : ℕ) (whole : Whole n overlaps at steps deep last) (top : ℕ) (topped : top ≡ top_of overlaps last) where
      last_root : root overlaps last ≡ first
      last_root = ap (root overlaps) whole.ends ∙ end_root ok at window

      -- The top of the last window stands in the component.
      pub top_between : (first ≤ top) × (top ≤ last)
      top_between =
          let k = depth overlaps last - 1 in
          omega (arith, root_le_ancestor (tree overlaps) last k, last_root, ancestor_le (tree overlaps) k last)

      -- Where every window of the component overlaps it, or is it, or stands behind it, the reach is the depth.
      pub reach_within : ((w : ℕ) → first ≤ w → w < top → top ≤ Tree.last n overlaps w) → Far n overlaps at steps first deep
      reach_within near =
          let e = whole.ends in
          rw (← whole.counted, e)
          (far_within ok at window deep none_apart whole.low (omega (arith, whole.high, whole.below)) (between_ends ok at window deep whole.low (omega (arith, whole.high)))
          (rw e at whole.level) (rw e at whole.none))
        where
          at_top : (d : ℕ) → depth overlaps end ≡ suc d → ancestor overlaps d end ≡ top
          at_top d s =
              let k : d ≡ depth overlaps end - 1 = omega arith in rw (topped, whole.ends, k)

          none_apart : (d w : ℕ) → depth overlaps end ≡ suc d → first ≤ w → ancestor overlaps d end ≤ Tree.last n overlaps w
          none_apart d w s l =
              ⊎_elim (λ g. omega (arith, near w l g, at_top d s)) (λ g. omega (arith, last_ge ok w, at_top d s)) (lt_or_ge w top)

      -- Where a first window of the component has its last before it,
      module _ (u : ℕ) (from-root : first ≤ u) (apart : Tree.last n overlaps u < top)
          (near : (w : ℕ) → first ≤ w → w < u → top ≤ Tree.last n overlaps w) where
        abbrev next : ℕ
        next = suc (Tree.last n overlaps u)

        next_low : first < next
        next_low = omega (arith, last_ge ok u)

        next_inside : component overlaps next ≡ component overlaps at
        next_inside = between_ends ok at window next (omega (arith, next_low)) (omega (arith, top_between.1, whole.ends))

        pub next_window : next < n
        next_window = omega (arith, top_between.1, whole.below)

        next_end : last_in_component n overlaps next ≡ end
        next_end = same_end next at next_window window next_inside

        -- the component is not the root alone,
        deeper : (d : ℕ) × (depth overlaps end ≡ suc d)
        deeper = by-depth (depth overlaps end) refl
          where
            by-depth : (d : ℕ) → depth overlaps end ≡ d → (d : ℕ) × (depth overlaps end ≡ suc d)
            by-depth zero e =
                let s : ancestor overlaps 0 end ≡ root overlaps end = ancestor_past (tree overlaps) end 0 (omega arith) in
                absurd (omega (arith, s, ancestor_zero (tree overlaps) end, end_root ok at window, next_low, top_between.1, whole.ends))
            by-depth (suc d) e = (d, e)

        down : ℕ
        down = deeper.0

        deep_end : depth overlaps end ≡ suc down
        unfolding down
        deep_end = deeper.1

        top_is : top ≡ ancestor overlaps down end
        top_is = let k : depth overlaps end - 1 ≡ down = omega (arith, deep_end) in
            topped ∙ (ap (top_of overlaps) whole.ends ∙ ap (λ i. ancestor overlaps i end) k)

        -- the window behind that last is on the level below the root,
        next_level : depth overlaps next ≡ 1
        next_level = omega (arith, least, most)
          where
            most : depth overlaps next ≤ 1
            most =
                let d = depth_ancestor (tree overlaps) down end (omega (arith, deep_end)) in
                let r = root_of_ancestor (tree overlaps) down end ∙ end_root ok at window in
                let below : ancestor overlaps down end < n = omega (arith, top_is, top_between.1, whole.below) in
                let m = depth_monotone ok next (ancestor overlaps down end) (omega (arith, top_is)) below
                (component_root (tree overlaps) next at next_inside ∙ sym r) in
                omega (arith, deep_end)

            least : 1 ≤ depth overlaps next
            least =
                ⊎_elim (λ l. l) (λ l. let s = ancestor_past (tree overlaps) next 0 (omega arith) in
                absurd (omega (arith, ancestor_zero (tree overlaps) next, component_root (tree overlaps) next at next_inside, next_low)))
                (lt_or_ge 0 (depth overlaps next))

        -- and a pass may begin there.
        pub next_spine : Spine n overlaps next
        next_spine =
            let k : depth overlaps end - depth overlaps next ≡ down = omega (arith, deep_end, next_level) in
            rw (next_end, k, ← top_is) apart

        -- What it finds makes the pair.
        pub reach_beyond : (under v tail : ℕ) → Deepest n overlaps next under v tail → Far n overlaps at (steps + 1) u v
        reach_beyond under v tail d =
            let tails : tail ≡ end = d.ends ∙ next_end in
            let k : under ≡ down = omega (arith, d.levels, ap (depth overlaps) tails, next_level, deep_end) in
            let same : steps + 1 ≡ suc (suc down) = omega (arith, whole.counted, ap (depth overlaps) whole.ends, deep_end) in
            let inside = between_ends ok at window v (omega (arith, d.low, next_low)) (omega (arith, d.high, tails)) in
            let level : depth overlaps v ≡ suc down = d.level ∙ (ap (depth overlaps) tails ∙ deep_end) in
            rw same
            (far_beyond ok at window down u v deep_end from-root (rw top_is at apart) (λ w l h. rw top_is at (near w l h))
            (omega (arith, d.high, tails, end_window ok at window)) inside level (rw k at d.above)
            (λ w l h e. let b = d.before w l h (e ∙ sym (ap (depth overlaps) tails ∙ deep_end)) in
            omega (arith, ap (λ i. ancestor overlaps i w) k)))

-- of an accepted plan, from what each pass of `farthest` answers

module _ (file : List ℕ) (ok : AcceptedPlan file) where
  order : IntervalOrder (window_count file) (overlaps file)
  order = interval_order file ok

  module _ (parents : List ℕ) (held : Holds parents (parent_of file) (window_count file)) where
    pub given : ParentsOf (window_count file) (overlaps file) parents
    unfolding parent_of
    given = record { order = order; held = held }

    -- No parent stands behind its window.
    pub upward : (at : ℕ) → at < window_count file → Upward parents at
    unfolding parent_of
    upward at h v l = omega (arith, held.at v (omega arith), parent_le (overlaps file) v)

    -- The table has an entry for every window.
    pub within_parents : (at : ℕ) → at < window_count file → at < length parents
    within_parents at h = omega (arith, held.long)

    -- The entry of a window is its parent, or the window itself for a root.
    pub entry_parent : (v p : ℕ) → Some p ≡ above file v → (get_or parents v 0 ≡ p) × (p < v)
    entry_parent v p e =
        let at : v < window_count file → get_or parents v 0 ≡ parent_of file v = held.at v in grind (arith, common_steps)

    pub entry_root : (v : ℕ) → v < window_count file → None ≡ above file v → get_or parents v 0 ≡ v
    unfolding parent_of
    entry_root v h e =
        let at = held.at v h in let le = parent_le (overlaps file) v in grind (arith, common_steps)

    -- The entry of the top is the root.
    pub root_read : (at t : ℕ) → at < window_count file → t ≡ top_of (overlaps file) at → get_or parents t 0 ≡ root (overlaps file) at
    unfolding parent_of
    root_read at t window e =
        let below : t < window_count file = omega (arith, ancestor_le (tree (overlaps file)) (depth (overlaps file) at - 1) at) in
        held.at t below ∙ (ap (parent (overlaps file)) e ∙ top_parent order at)

  module _ (at : ℕ) (window : at < window_count file) where
    pub root_window : root (overlaps file) at < window_count file
    root_window = omega (arith, root_le (tree (overlaps file)) at)

    pub spine_from : Spine (window_count file) (overlaps file) (root (overlaps file) at)
    spine_from = root_spine order at window

    pub last_window : last_in_component (window_count file) (overlaps file) at < window_count file
    last_window = last_in_component_window (window_count file) (overlaps file) at window

    -- What the pass from the root finds is the component.
    pub component_found : (r steps first last top : ℕ) → r ≡ root (overlaps file) at →
        Deepest (window_count file) (overlaps file) r steps first last → top ≡ top_of (overlaps file) last →
        ComponentFound file at r steps first last top
    component_found r steps first last top rooted levels topped =
        let whole = whole_found order at window steps first last (rw rooted at levels) in
        let inside = top_between order at window steps first last whole top topped in
        record {
          rooted = rooted;
          levels = levels;
          topped = topped;
          few = omega (arith, whole.counted, depth_le (tree (overlaps file)) last);
          low = omega (arith, inside, rooted);
          high = inside.1;
          window = whole.below;
        }

    module _ {r steps deep last top : ℕ} (s : ComponentFound file at r steps deep last top) where
      whole : Whole (window_count file) (overlaps file) at steps deep last
      whole = let e = s.rooted in whole_found order at window steps deep last (rw e at s.levels)

      module _ {u : ℕ} (seen : FirstApart file r top u) where
        near : (w : ℕ) → root (overlaps file) at ≤ w → w < u → top ≤ Tree.last (window_count file) (overlaps file) w
        unfolding last_of
        near w l h = seen.before w (omega (arith, s.rooted)) h

        low : root (overlaps file) at ≤ u
        low = omega (arith, seen.low, s.rooted)

        pub farthest_within : u ≡ top → record { handovers = steps; smaller = r; larger = deep } ≡ reach_of file at
        unfolding reach_in reach_of
        farthest_within same =
            let all = reach_within order at window steps deep last whole top s.topped (λ w l h. near w l (omega arith)) in
            let one = far_unique _ _ _ _ _ _ all (reach_far order at window) in
            rw (s.rooted, one.0, one.1, one.2)

        module _ (other : u ≡ top → ⊥) where
          pub seen_apart : last_of file u < top
          seen_apart = seen.apart (⊎_elim (λ l. l) (λ l. absurd (other (omega (arith, seen.high)))) (lt_or_ge u top))

          apart : Tree.last (window_count file) (overlaps file) u < top
          unfolding last_of
          apart = seen_apart

          pub behind_spine : Spine (window_count file) (overlaps file) (suc (last_of file u))
          unfolding last_of
          behind_spine = next_spine order at window steps deep last whole top s.topped u low apart near

          module _ {under v tail : ℕ} (d : Deepest (window_count file) (overlaps file) (suc (last_of file u)) under v tail) where
            far : Far (window_count file) (overlaps file) at (steps + 1) u v
            unfolding last_of
            far = reach_beyond order at window steps deep last whole top s.topped u low apart near under v tail d

            pub larger_window : v < window_count file
            larger_window = far.mates.window

            pub farthest_beyond : record { handovers = steps + 1; smaller = u; larger = v } ≡ reach_of file at
            unfolding reach_in reach_of
            farthest_beyond = let one = far_unique _ _ _ _ _ _ far (reach_far order at window) in rw (one.0, one.1, one.2)

pub ruleset from_root = (root_window, spine_from, last_window)

-- The answers.
module _ (file : List ℕ) (at : ℕ) (answer : Result Accepted Refusal) (validated : answer ≡ validate_answer_of file) where
  pub reach_refused : (refusal : Refusal) → answer ≡ Err refusal → Err refusal ≡ reach_answer_of file at
  unfolding reach_answer_of reach_questions
  reach_refused = plan_refused file _ Err _ answer validated

module _ {file : List ℕ} {windows : ℕ} (plan : AcceptedWindows file windows) (at : ℕ) where
  pub reach_past : windows ≤ at → Err (refusal_by 7) ≡ reach_answer_of file at
  unfolding reach_answer_of reach_questions
  reach_past past =
      rw (← plan.counted)
      (one_more_no file (position_question at windows) Err _ _ refl _ _ (accepted_validated file plan.accepted) (le-ltb at windows past))
