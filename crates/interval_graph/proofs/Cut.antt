-- A cut: no window before b overlaps one from b on. Then the windows before b have the numbers that they would have alone. So two overlap
-- tests with one cut, each over as many windows as it likes, that agree on the windows before it give these the same numbers. A
-- component's root is a cut, and so is the place behind its last window.
-- Vocabulary: Cut, cut_numbers, root_cut, component_cut.
-- Assumes nothing.
use Prim.Native.Nat.{ℕ, zero, suc, ◌+◌, ◌-◌, ◌≤◌, ◌<◌}
use mathlib.Core.Bool.{Bool, false, ◌&&◌}
use mathlib.Core.{Path.◌≡◌, Path.refl, Path.ap, Path.◌∙◌, Logic.⊎_elim}
use mathlib.Core.List.{List, [], ◌∷◌, ◌++◌, append-nil, flat_map}
use native.Mathlib.Omega.{arith}
use lib.Dec.{ltb, eqb}
use borrow.Author.Tests.{eqb-true}
use Rattle.sequences.specs.{Search.greatest, Search.passing, Lists.index_of}
use Rattle.sequences.proofs.Tests.{truth, and_right, and_false_right, true_false_absurd}
use Rattle.sequences.proofs.{Search.greatest_none, Passing.passing_add, Passing.passing_none, FlatMap.flat_map_cong}
use Rattle.interval_graph.specs.Order.{IntervalOrder}
use Rattle.interval_graph.specs.Forest.{children, post_order_to, post_order, rank}
use Rattle.interval_graph.specs.Tree.{last, parent, root, last_rank}
use Rattle.interval_graph.specs.{Reach.last_in_component, Numbers.numbers_of}
use Rattle.interval_graph.proofs.{Last.last_below, Parent.tree, Parent.parent_overlaps, Component.root_component}
use Rattle.interval_graph.proofs.Depth.{root_le, root_parent, fixed_is_root}
use Rattle.interval_graph.proofs.Monotone.{root_monotone, overlap_root, component_monotone}
use Rattle.interval_graph.proofs.PostOrder.{children_sound, levels_enough}
use Rattle.interval_graph.proofs.Sameness.{SameOverlaps, overlaps_numbers}
use Rattle.interval_graph.proofs.Reach.{last_in_component_window, last_in_component-component, last_in_component-greatest}

pub record Cut (n : ℕ) (overlaps : ℕ → ℕ → Bool) (b : ℕ) : Type 0 where
  pub within : b ≤ n
  pub across : (i j : ℕ) → i < b → b ≤ j → j < n → overlaps i j ≡ false

module _ {n b : ℕ} {overlaps : ℕ → ℕ → Bool} (ok : IntervalOrder n overlaps) (cut : Cut n overlaps b) where
  -- Alone, the windows before the cut are in interval order.
  alone : IntervalOrder b overlaps
  alone =
      record {
        symmetric = ok.symmetric;
        irreflexive = ok.irreflexive;
        between = λ u v w uv vw wb t. ok.between u v w uv vw (omega (arith, cut.within)) t;
      }

  -- A window before the cut has its last there,
  last_alone : (u : ℕ) → u < b → last n overlaps u ≡ last b overlaps u
  unfolding last
  last_alone u h =
      let p : ℕ → Bool = λ w. ltb u w && overlaps u w in let whole : n ≡ b + (n - b) = omega (arith, cut.within) in
      ap (λ m. greatest p m u) whole
      ∙ greatest_none p b (n - b) u (λ w l r. and_false_right (ltb u w) (overlaps u w) (cut.across u w h l (omega arith)))

  -- and its children, and theirs.
  none_behind : (v c : ℕ) → v < b → b ≤ c → c < n → (ltb v c && eqb (parent overlaps c) v) ≡ false
  none_behind v c h l r =
      ⊎_elim (λ t. let e : parent overlaps c ≡ v = eqb-true _ _ (and_right (ltb v c) _ t) in
      absurd (true_false_absurd _ (rw e at (parent_overlaps overlaps c (omega arith))) (cut.across v c h l r))) (λ t. t)
      (truth (ltb v c && eqb (parent overlaps c) v))

  children_alone : (v : ℕ) → v < b → children n (parent overlaps) v ≡ children b (parent overlaps) v
  unfolding children
  children_alone v h =
      let p : ℕ → Bool = λ c. ltb v c && eqb (parent overlaps c) v in let whole : n ≡ b + (n - b) = omega (arith, cut.within) in
      let none : passing p (0 + b) (n - b) ≡ [] = passing_none p (0 + b) (n - b) (λ c l r. none_behind v c h (omega arith) (omega arith)) in
      ap (passing p 0) whole ∙ (passing_add p 0 b (n - b) ∙ rw none (append-nil (passing p 0 b)))

  order_alone : (levels v : ℕ) → v < b → post_order_to n (parent overlaps) levels v ≡ post_order_to b (parent overlaps) levels v
  unfolding post_order_to
  order_alone zero v h = refl
  order_alone (suc levels) v h =
      ap (λ (c : List ℕ). flat_map (post_order_to n (parent overlaps) levels) c ++ (v ∷ [])) (children_alone v h)
      ∙ ap (λ (l : List ℕ). l ++ (v ∷ []))
      (flat_map_cong (post_order_to n (parent overlaps) levels) (post_order_to b (parent overlaps) levels) (children b (parent overlaps) v)
      (λ c m. order_alone levels c (children_sound b (tree overlaps) v c m).window))

  rank_alone : (v : ℕ) → v < b → rank n (parent overlaps) v ≡ rank b (parent overlaps) v
  unfolding rank post_order
  rank_alone v h =
      let r = root overlaps v in let below : r < b = omega (arith, root_le (tree overlaps) v) in
      ap (index_of v) (order_alone n r below ∙ levels_enough b (tree overlaps) n b r below (omega (arith, cut.within)) (omega arith))

  last_rank_alone : (v : ℕ) → v < b → last_rank n overlaps v ≡ last_rank b overlaps v
  unfolding last_rank
  last_rank_alone v h =
      ap (rank n (parent overlaps)) (last_alone v h) ∙ rank_alone (last b overlaps v) (last_below alone v h)

-- The same numbers before the cut, whatever lies behind it.
pub cut_numbers : {n m b : ℕ} {first second : ℕ → ℕ → Bool} → IntervalOrder n first → IntervalOrder m second → Cut n first b → Cut m second b →
    SameOverlaps b first second → (plan v : ℕ) → v < b → numbers_of n first plan v ≡ numbers_of m second plan v
unfolding numbers_of
cut_numbers ok ok' cut cut' same plan v h =
    let numbers = overlaps_numbers (alone ok cut) (alone ok' cut') same in
    rw (
      numbers.components v h,
      numbers.depths v h,
      rank_alone ok cut v h,
      rank_alone ok' cut' v h,
      numbers.ranks v h,
      last_rank_alone ok cut v h,
      last_rank_alone ok' cut' v h,
      numbers.lasts v h,
    )

module _ {n : ℕ} {overlaps : ℕ → ℕ → Bool} (ok : IntervalOrder n overlaps) (v : ℕ) (h : v < n) where
  -- Nothing before the root of a component overlaps anything from it on.
  pub root_cut : Cut n overlaps (root overlaps v)
  root_cut =
      record {
        within = omega (arith, root_le (tree overlaps) v);
        across = λ i j l g w. ⊎_elim (λ t. absurd (omega (
          arith,
          overlap_root ok i j (omega arith) w t,
          root_le (tree overlaps) i,
          root_monotone ok (root overlaps v) j g w,
          fixed_is_root (tree overlaps) (root overlaps v) (root_parent (tree overlaps) v),
        ))) (λ t. t) (truth (overlaps i j));
      }

  -- Nor does anything up to the last window of a component overlap anything behind it.
  pub component_cut : Cut n overlaps (suc (last_in_component n overlaps v))
  component_cut =
      let z = last_in_component n overlaps v in let window = last_in_component_window n overlaps v h in
      record {
        within = omega (arith, window);
        across = λ i j l g w. ⊎_elim (λ t. absurd (omega (
          arith,
          last_in_component-greatest n overlaps v j w (omega (
            arith,
            root_component (tree overlaps) i j (overlap_root ok i j (omega arith) w t),
            component_monotone ok i z (omega arith) window,
            component_monotone ok z j (omega arith) w,
            last_in_component-component n overlaps v,
          )),
        ))) (λ t. t) (truth (overlaps i j));
      }
