-- Which numbers a change leaves as they were: it makes a cut, before which the windows are the same.
-- Vocabulary: added_numbers, withdrawn_numbers.
-- Assumes nothing.
use Prim.Native.Nat.{ℕ, suc, ◌-◌, ◌≤◌, ◌<◌}
use mathlib.Core.{Bool.true, Bool.false, Path.◌≡◌, Path.refl, Path.sym, Path.◌∙◌, Logic.⊎_elim, List.List}
use native.Mathlib.Omega.{arith}
use lib.Dec.{eqb}
use borrow.Author.Tests.{ne_eqb}
use Rattle.sequences.proofs.Tests.{truth, lt_or_ge, equal_or_not}
use Rattle.interval_graph.specs.Order.{IntervalOrder}
use Rattle.interval_graph.specs.{Tree.root, Tree.component, Reach.last_in_component, Numbers.numbers_of}
use Rattle.interval_graph.proofs.{Parent.tree, Component.root_component, Depth.root_parent, Depth.root_le, Depth.fixed_is_root}
use Rattle.interval_graph.proofs.Monotone.{overlap_root, component_monotone}
use Rattle.interval_graph.proofs.Cut.{Cut, cut_numbers, root_cut, component_cut}
use Rattle.interval_graph.proofs.Reach.{last_in_component_window, last_in_component-component, last_in_component-greatest}
use Rattle.plan.specs.declared.windows.Window.{Window}
use Rattle.plan.specs.File.{window_count, window_at}
use Rattle.overlap.specs.Overlap.{sharing, overlaps}
use Rattle.overlap.proofs.InOrder.{interval_order}
use Rattle.changing.specs.declared.records.Change.{Change}
use Rattle.changing.specs.Change.{added_place, changed_file, adding, withdrawing}
use Rattle.changing.specs.Questions.{AcceptedChange}
use Rattle.changing.proofs.Changed.{changed_minimum}
use Rattle.changing.proofs.Added.{place_le, added_count, added_before, added_behind}
use Rattle.changing.proofs.Withdrawn.{withdrawn_count, withdrawn_before, withdrawn_behind}
use Rattle.changing.proofs.Asked.{change_plan, change_withdrawn, change_accepted}

-- Two windows of the changed plan overlap as they did where they stood before.
module _ (file : List ℕ) (c : Change) (i j i' j' : ℕ) (first : window_at (changed_file file c) i ≡ window_at file i')
    (second : window_at (changed_file file c) j ≡ window_at file j') where
  overlaps_as : eqb i j ≡ eqb i' j' → overlaps (changed_file file c) i j ≡ overlaps file i' j'
  unfolding overlaps sharing
  overlaps_as e = rw (changed_minimum file c, first, second, e)

  overlaps_apart : i < j → i' < j' → overlaps (changed_file file c) i j ≡ overlaps file i' j'
  overlaps_apart l r = overlaps_as (ne_eqb i j (omega arith) ∙ sym (ne_eqb i' j' (omega arith)))

-- An added window, and a component that lies wholly before it and has no overlap with it.
module _ (file : List ℕ) (plan : ℕ) (w : Window) (ok : AcceptedChange file (adding plan w)) (v : ℕ) (h : v < window_count file)
    (apart : (u : ℕ) → u < window_count file → component (overlaps file) u ≡ component (overlaps file) v →
    (u < added_place file w) × (overlaps (changed_file file (adding plan w)) u (added_place file w) ≡ false)) where
  abbrev changed : List ℕ
  changed = changed_file file (adding plan w)

  abbrev end : ℕ
  end = last_in_component (window_count file) (overlaps file) v

  order : IntervalOrder (window_count file) (overlaps file)
  order = interval_order file (change_plan file (adding plan w) ok)

  order' : IntervalOrder (window_count changed) (overlaps changed)
  order' = interval_order changed (change_accepted file (adding plan w) ok)

  end_window : end < window_count file
  end_window = last_in_component_window (window_count file) (overlaps file) v h

  end_before : end < added_place file w
  end_before = (apart end end_window (last_in_component-component (window_count file) (overlaps file) v)).0

  -- Nothing up to the component's last window overlaps the added one: in interval order it would overlap that window, too.
  none_added : (i : ℕ) → i ≤ end → overlaps changed i (added_place file w) ≡ false
  none_added i le =
      ⊎_elim (λ t. ⊎_elim (λ same. (apart i (omega (arith, end_window)) same).1) (λ differ. absurd (differ (between t differ)))
      (equal_or_not (component (overlaps file) i) (component (overlaps file) v))) (λ t. t) (truth (overlaps changed i (added_place file w)))
    where
      between : overlaps changed i (added_place file w) ≡ true →
          (component (overlaps file) i ≡ component (overlaps file) v → ⊥) → component (overlaps file) i ≡ component (overlaps file) v
      between t differ =
          let last = last_in_component-component (window_count file) (overlaps file) v in
          let less : i < end = ⊎_elim (λ l. l) (λ l. let e : i ≡ end = omega arith in absurd (differ (rw e last))) (lt_or_ge i end) in
          let here = order'.between i end (added_place file w) less end_before (omega (arith, added_count file plan w, place_le file w)) t in
          let there = sym (overlaps_apart file (adding plan w) i end i end (added_before file plan w i (omega (arith, end_before)))
          (added_before file plan w end end_before) less less) ∙ here in
          root_component (tree (overlaps file)) i end (overlap_root order i end (omega (arith, end_window)) end_window there) ∙ last

  added_cut : Cut (window_count changed) (overlaps changed) (suc end)
  added_cut =
      record {
        within = omega (arith, end_window, added_count file plan w);
        across = λ i j l g b.
            ⊎_elim (λ before. overlaps_apart file (adding plan w) i j i j (added_before file plan w i (omega (arith, end_before)))
            (added_before file plan w j before) (omega arith) (omega arith)
            ∙ (component_cut order v h).across i j l g (omega (arith, place_le file w)))
            (λ from. ⊎_elim (λ behind. let u : ℕ = j - 1 in let within : u < window_count file = omega (arith, added_count file plan w) in
            overlaps_apart file (adding plan w) i j i u (added_before file plan w i (omega (arith, end_before)))
            (added_behind file plan w j u (omega arith) (omega arith) within) (omega arith) (omega (arith, end_before))
            ∙ (component_cut order v h).across i u l (omega (arith, end_before)) within)
            (λ there. let e : j ≡ added_place file w = omega arith in rw e (none_added i (omega arith))) (lt_or_ge (added_place file w) j))
            (lt_or_ge j (added_place file w));
      }

  pub added_numbers : (p : ℕ) → numbers_of (window_count changed) (overlaps changed) p v ≡ numbers_of (window_count file) (overlaps file) p v
  added_numbers p =
      cut_numbers order' order added_cut (component_cut order v h)
      (λ a b la lb. overlaps_as file (adding plan w) a b a b (added_before file plan w a (omega (arith, end_before)))
      (added_before file plan w b (omega (arith, end_before))) refl) p v
      (omega (arith, last_in_component-greatest (window_count file) (overlaps file) v v h refl))

  pub added_position : v < added_place file w
  added_position = omega (arith, end_before, last_in_component-greatest (window_count file) (overlaps file) v v h refl)

-- A withdrawn window, and a component with a smaller number.
module _ (file : List ℕ) (plan at : ℕ) (ok : AcceptedChange file (withdrawing plan at)) (v : ℕ) (h : v < window_count file)
    (smaller : component (overlaps file) v < component (overlaps file) at) where
  abbrev without : List ℕ
  without = changed_file file (withdrawing plan at)

  there : at < window_count file
  there = change_withdrawn file plan at ok

  ordered : IntervalOrder (window_count file) (overlaps file)
  ordered = interval_order file (change_plan file (withdrawing plan at) ok)

  ordered' : IntervalOrder (window_count without) (overlaps without)
  ordered' = interval_order without (change_accepted file (withdrawing plan at) ok)

  -- It stands before the root of the withdrawn window's component.
  pub withdrawn_position : (v < root (overlaps file) at) × (root (overlaps file) at ≤ at)
  withdrawn_position =
      let r = root (overlaps file) at in let t = tree (overlaps file) in
      let own : component (overlaps file) r ≡ component (overlaps file) at = root_component t r at (fixed_is_root t r (root_parent t at)) in (
        ⊎_elim (λ l. l) (λ l. absurd (omega (arith, own, component_monotone ordered r v l h))) (lt_or_ge v r),
        root_le t at,
      )

  withdrawn_cut : Cut (window_count without) (overlaps without) (root (overlaps file) at)
  withdrawn_cut =
      let first = withdrawn_position.1 in
      record {
        within = omega (arith, first, there, withdrawn_count file plan at there);
        across = λ i j l g b.
            ⊎_elim (λ before. overlaps_apart file (withdrawing plan at) i j i j (withdrawn_before file plan at there i (omega (arith, first)))
            (withdrawn_before file plan at there j before) (omega arith) (omega arith)
            ∙ (root_cut ordered at there).across i j l g (omega (arith, there)))
            (λ from. let within : suc j < window_count file = omega (arith, withdrawn_count file plan at there) in
            overlaps_apart file (withdrawing plan at) i j i (suc j) (withdrawn_before file plan at there i (omega (arith, first)))
            (withdrawn_behind file plan at there j (suc j) (omega arith) from within) (omega arith) (omega arith)
            ∙ (root_cut ordered at there).across i (suc j) l (omega arith) within) (lt_or_ge j at);
      }

  pub withdrawn_numbers : (p : ℕ) → numbers_of (window_count without) (overlaps without) p v ≡ numbers_of (window_count file) (overlaps file) p v
  withdrawn_numbers p =
      let first = withdrawn_position.1 in
      cut_numbers ordered' ordered withdrawn_cut (root_cut ordered at there)
      (λ a b la lb. overlaps_as file (withdrawing plan at) a b a b (withdrawn_before file plan at there a (omega (arith, first)))
      (withdrawn_before file plan at there b (omega (arith, first))) refl) p v withdrawn_position.0
