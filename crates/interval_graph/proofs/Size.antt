-- Ranks from sizes: the rank of a window, plus 1, is where its list begins in its root's, plus its size; and a size is
-- 1 more than the children's sizes together.
-- Vocabulary: size, start, earlier_siblings, rank.
-- Assumes nothing.
use Prim.Native.Nat.{ℕ, zero, suc, ◌+◌, ◌-◌, ◌<◌}
use mathlib.Core.{Bool.Bool, Bool.true, Bool.◌&&◌, Path.◌≡◌, Path.refl, Path.sym, Path.ap, Path.◌∙◌}
use mathlib.Core.List.{List, [], ◌∷◌, ◌++◌, append_assoc, flat_map, Memᴰ}
use native.Mathlib.Omega.{arith}
use lib.{Dec.ltb, Dec.eqb, ListN.length, ListN.length-append}
use borrow.Author.Tests.{ltb-true, eqb-true, lt-ltb, eq-eqb}
use Rattle.sequences.specs.{Search.passing, Lists.index_of, Lists.total}
use Rattle.sequences.proofs.Tests.{and_left, and_right, and_intro}
use Rattle.sequences.proofs.Passing.{passing_true, passing_add, passing_sound}
use Rattle.sequences.proofs.Lists.{index_below, index_absent, index_here, index_append_left, index_append_right}
use Rattle.sequences.proofs.FlatMap.{flat_map_sound, flat_map-append, length-flat_map}
use Rattle.interval_graph.specs.Forest.{ancestor, depth, root, children, post_order, rank, size, earlier_siblings, start_to, start, Forest}
use Rattle.interval_graph.proofs.Ancestor.{ancestor_zero}
use Rattle.interval_graph.proofs.Depth.{depth_step, fixed_depth, not_root_below, before_depth, ancestor_past}
use Rattle.interval_graph.proofs.PostOrder.{Child, Under, children_sound, child_depth, post_order-children, under_child, under_ge}
use Rattle.interval_graph.proofs.PostOrder.{under_root, post_order_sound, post_order_complete}

module _ (n : ℕ) {parent : ℕ → ℕ} (forest : Forest parent) where
  -- size

  -- The size of a window is 1 more than the sizes of its children together.
  pub size_children : (v : ℕ) → v < n → size n parent v ≡ suc (total (size n parent) (children n parent v))
  unfolding size
  size_children v h =
      let below = flat_map (post_order n parent) (children n parent v) in
      omega (arith, ap length (post_order-children n forest v h), length-append below (v ∷ []), length-flat_map (post_order n parent) (children n parent v))

  -- start

  -- The list of a root begins at 0.
  pub start_root : (v : ℕ) → parent v ≡ v → start n parent v ≡ 0
  unfolding start start_to
  start_root v e = rw (fixed_depth forest v e)

  start_top : (v : ℕ) → depth parent v ≡ 0 → start n parent v ≡ 0
  unfolding start start_to
  start_top v e = rw e

  -- The list of a child begins behind those of its earlier siblings, counted from where its parent begins.
  pub start_child : (c : ℕ) → parent c < c → start n parent c ≡ start n parent (parent c) + total (size n parent) (earlier_siblings n parent c)
  unfolding start start_to
  start_child c h = rw (depth_step forest c h)

  -- earlier siblings

  earlier_children : (v c : ℕ) → Child n parent v c → earlier_siblings n parent c ≡ passing (λ s. ltb v s && eqb (parent s) v) 0 c
  unfolding earlier_siblings
  earlier_children v c k = ap (λ (p : ℕ). passing (λ s. ltb p s && eqb (parent s) p) 0 c) k.parent_is

  earlier_sound : (v c s : ℕ) → Child n parent v c → Memᴰ s (earlier_siblings n parent c) → (s < c) × Child n parent v s
  earlier_sound v c s k m =
      let h = passing_sound (λ s. ltb v s && eqb (parent s) v) 0 c s (rw (earlier_children v c k) at m) in let b : s < c = omega arith in (
        b,
        record {
          behind = ltb-true v s (and_left (ltb v s) (eqb (parent s) v) h.2);
          window = omega (arith, k.window);
          parent_is = eqb-true (parent s) v (and_right (ltb v s) (eqb (parent s) v) h.2);
        },
      )

  -- The children of a window are those before one of them, that one, and those after it.
  children_split : (v c : ℕ) → Child n parent v c → (after : List ℕ) × (children n parent v ≡ earlier_siblings n parent c ++ (c ∷ after))
  unfolding children
  children_split v c k =
      let p : ℕ → Bool = λ s. ltb v s && eqb (parent s) v in
      let r = n - suc c in let whole : n ≡ c + suc r = omega (arith, k.window) in let from : 0 + c ≡ c = omega arith in
      let passes : p c ≡ true = and_intro (ltb v c) (eqb (parent c) v) (lt-ltb v c k.behind) (eq-eqb (parent c) v k.parent_is) in (
        passing p (suc c) r,
        ap (passing p 0) whole ∙ (passing_add p 0 c (suc r) ∙ (ap (λ (z : ℕ). passing p 0 c ++ passing p z (suc r)) from
            ∙ (ap (λ (l : List ℕ). passing p 0 c ++ l) (passing_true p c r passes)
            ∙ ap (λ (l : List ℕ). l ++ (c ∷ passing p (suc c) r)) (sym (earlier_children v c k))))),
      )

  -- A window is under one window only of a level.
  pub under_unique : (s c y : ℕ) → Under n parent s y → Under n parent c y → depth parent s ≡ depth parent c → s ≡ c
  under_unique s c y p q e =
      let i : p.steps ≡ q.steps = omega (arith, p.deeper, q.deeper) in sym p.up ∙ (ap (λ k. ancestor parent k y) i ∙ q.up)

  not_earlier : (v c y : ℕ) → Child n parent v c → Memᴰ y (post_order n parent c) →
      Memᴰ y (flat_map (post_order n parent) (earlier_siblings n parent c)) → ⊥
  not_earlier v c y k m g =
      let r = flat_map_sound (post_order n parent) (earlier_siblings n parent c) y g in
      let q = earlier_sound v c r.0 k r.1 in let under = post_order_sound n forest r.0 y q.1.window r.2 in
      let level = child_depth n forest v r.0 q.1 ∙ sym (child_depth n forest v c k) in
      let same : r.0 ≡ c = under_unique r.0 c y under (post_order_sound n forest c y k.window m) level in omega (arith, q.0)

  -- In the list of v the list of a child stands behind those of its earlier siblings.
  index_in_child : (v c y : ℕ) → v < n → Child n parent v c → Memᴰ y (post_order n parent c) →
      index_of y (post_order n parent v) ≡ total (size n parent) (earlier_siblings n parent c) + index_of y (post_order n parent c)
  unfolding size flat_map
  index_in_child v c y h k m =
      let P = post_order n parent in let E = earlier_siblings n parent c in let split = children_split v c k in
      let before = flat_map P E in let behind = flat_map P split.0 ++ (v ∷ []) in
      let parts = ap (λ (l : List ℕ). l ++ (v ∷ [])) (flat_map-append P E (c ∷ split.0)) in
      let whole = post_order-children n forest v h ∙ ap (λ (l : List ℕ). flat_map P l ++ (v ∷ [])) split.1 in
      let shape : P v ≡ before ++ (P c ++ behind) = whole ∙ (parts ∙ simp append_assoc) in
      let past = index_append_right y before (P c ++ behind) (index_absent y before (not_earlier v c y k m)) in
      omega (arith, ap (index_of y) shape, past, index_append_left y (P c) behind (index_below y (P c) m), length-flat_map P E)

  pub not_below : (v : ℕ) → Memᴰ v (flat_map (post_order n parent) (children n parent v)) → ⊥
  not_below v g =
      let r = flat_map_sound (post_order n parent) (children n parent v) v g in let k = children_sound n forest v r.0 r.1 in
      omega (arith, k.behind, under_ge n forest r.0 v (post_order_sound n forest r.0 v k.window r.2))

  -- In its own list a window stands last.
  pub index_self : (v : ℕ) → v < n → suc (index_of v (post_order n parent v)) ≡ size n parent v
  unfolding size
  index_self v h =
      let below = flat_map (post_order n parent) (children n parent v) in
      let whole = post_order-children n forest v h in let past = index_append_right v below (v ∷ []) (index_absent v below (not_below v)) in
      omega (arith, ap (index_of v) whole, past, index_here v v [] refl, ap length whole, length-append below (v ∷ []))

  -- Where something of v's list stands in the root's list.
  pub rank_in_list : (d v y : ℕ) → depth parent v ≡ d → v < n → Memᴰ y (post_order n parent v) →
      rank n parent y ≡ start n parent v + index_of y (post_order n parent v)
  unfolding rank
  rank_in_list zero v y e h m =
      let top : root parent v ≡ v = sym (ancestor_past forest v 0 (omega arith)) ∙ ancestor_zero forest v in
      let own : root parent y ≡ v = under_root n forest v y (post_order_sound n forest v y h m) ∙ top in
      omega (arith, ap (λ (r : ℕ). index_of y (post_order n parent r)) own, start_top v e)
  rank_in_list (suc d) v y e h m =
      let p = parent v in
      let b : p < v = not_root_below forest v (rw (ancestor_zero forest v) at (before_depth forest v 0 (omega arith))) in
      let k : Child n parent p v = record { behind = b; window = h; parent_is = refl } in
      let u = under_child n forest p v y k (post_order_sound n forest v y h m) in
      let above : Memᴰ y (post_order n parent p) = post_order_complete n forest u.steps y p u.window u.up in
      omega (arith, rank_in_list d p y (omega (arith, depth_step forest v b)) (omega arith) above, index_in_child p v y (omega arith) k m, start_child v b)

  -- The rank of a window, plus 1, is its start plus its size.
  pub rank_size : (v : ℕ) → v < n → rank n parent v + 1 ≡ start n parent v + size n parent v
  rank_size v h =
      omega (arith, rank_in_list (depth parent v) v v refl h (post_order_complete n forest 0 v v h (ancestor_zero forest v)), index_self v h)
