-- Post-order holds each window of a component once, in any forest; so a rank tells a window from all others of its component, and
-- sizes, starts and ranks stay within the number of windows.
-- Vocabulary: post_order, rank, size, start, component, depth.
-- Assumes nothing.
use Prim.Native.Nat.{ℕ, ◌+◌, ◌≤◌, ◌<◌}
use mathlib.Core.Path.{◌≡◌, refl, sym, ◌∙◌}
use mathlib.Core.List.Memᴰ
use mathlib.Core.List.{[], ◌∷◌, flat_map, Memᴰ}
use native.Mathlib.Omega.{arith}
use lib.ListN.{length, get_or}
use Rattle.sequences.{specs.Lists.index_of, proofs.Lists.index_below, proofs.Lists.index_at}
use Rattle.sequences.proofs.Pairwise.{Pairwise, pairwise_append, pairwise_flat_map, pairwise_once, pairwise_length}
use Rattle.interval_graph.specs.Forest.{depth, root, rank, children, post_order, Forest, size, start}
use Rattle.interval_graph.proofs.Depth.{root_le, ancestor_past}
use Rattle.interval_graph.proofs.PostOrder.{Child, children_sound, children_rise, child_depth, by_children, post_order-children}
use Rattle.interval_graph.proofs.PostOrder.{post_order_sound, post_order_complete}
use Rattle.interval_graph.proofs.Size.{rank_size, not_below, under_unique}

module _ (n : ℕ) {parent : ℕ → ℕ} (forest : Forest parent) where
  -- Of two entries of a list the earlier is not the later: what is under one child is under no other, and the window itself is
  -- under none of them.
  pub post_order_distinct : (v : ℕ) → v < n → Pairwise (λ x y. x ≡ y → ⊥) (post_order n parent v)
  post_order_distinct v h = by_children n forest (λ v. Pairwise (λ x y. x ≡ y → ⊥) (post_order n parent v)) step v h
    where
      step : (v : ℕ) → v < n → ((c : ℕ) → Child n parent v c → Pairwise (λ x y. x ≡ y → ⊥) (post_order n parent c)) →
          Pairwise (λ x y. x ≡ y → ⊥) (post_order n parent v)
      step v h below =
          rw (post_order-children n forest v h)
          (pairwise_append (λ x y. x ≡ y → ⊥) (flat_map (post_order n parent) (children n parent v)) (v ∷ [])
          (pairwise_flat_map (λ x y. x ≡ y → ⊥) (λ x y. x < y) (post_order n parent) (children n parent v) (children_rise n forest v)
          (λ c m. below c (children_sound n forest v c m)) siblings) (λ y m. absurd (Memᴰ.not-nil m), tt)
          (λ x y m g e. not_below n forest v (rw (e ∙ Memᴰ.eq_of_singleton g) at m)))
        where
          siblings : (c d x y : ℕ) → Memᴰ c (children n parent v) → Memᴰ d (children n parent v) → c < d →
              Memᴰ x (post_order n parent c) → Memᴰ y (post_order n parent d) → x ≡ y → ⊥
          siblings c d x y p q l a b e =
              let i = children_sound n forest v c p in let j = children_sound n forest v d q in
              let under = post_order_sound n forest c y i.window (rw e at a) in
              let level = child_depth n forest v c i ∙ sym (child_depth n forest v d j) in
              let one : c ≡ d = under_unique n forest c d y under (post_order_sound n forest d y j.window b) level in omega arith

  -- The list of a window holds each of its windows once: the entry at i has index i.
  pub post_order_once : (v i : ℕ) → v < n → i < length (post_order n parent v) → index_of (get_or (post_order n parent v) i 0) (post_order n parent v) ≡ i
  post_order_once v i h b = pairwise_once (λ x y. x ≡ y → ⊥) (λ x d. d refl) (post_order n parent v) i (post_order_distinct v h) b

  -- No list is longer than there are windows.
  pub size_le : (v : ℕ) → v < n → size n parent v ≤ n
  unfolding size
  size_le v h =
      pairwise_length (λ x y. x ≡ y → ⊥) (λ x d. d refl) (post_order n parent v) n (post_order_distinct v h)
      (λ x m. (post_order_sound n forest v x h m).window)

  -- A window is in the list of its root.
  pub rank_member : (x : ℕ) → x < n → Memᴰ x (post_order n parent (root parent x))
  rank_member x h = post_order_complete n forest (depth parent x) x (root parent x) h (ancestor_past forest x (depth parent x) (omega arith))

  -- The rank of a window is an index in the list of its root.
  pub rank_below : (x : ℕ) → x < n → rank n parent x < length (post_order n parent (root parent x))
  unfolding rank
  rank_below x h = index_below x (post_order n parent (root parent x)) (rank_member x h)

  -- In the list of its root, the entry at its rank is the window.
  pub rank_entry : (x : ℕ) → x < n → get_or (post_order n parent (root parent x)) (rank n parent x) 0 ≡ x
  unfolding rank
  rank_entry x h = index_at x (post_order n parent (root parent x)) (rank_below x h)

  -- In one component different windows have different ranks.
  pub rank_injective : (x y : ℕ) → x < n → y < n → root parent x ≡ root parent y → rank n parent x ≡ rank n parent y → x ≡ y
  rank_injective x y h g e s = sym (rank_entry x h) ∙ ((rw (e, s) refl) ∙ rank_entry y g)

  -- A rank is below the number of windows.
  pub rank_lt : (v : ℕ) → v < n → rank n parent v < n
  unfolding size
  rank_lt v h = omega (arith, rank_below v h, size_le (root parent v) (omega (arith, root_le forest v)))

  -- A list ends within the number of windows, counted from where it begins in its root's.
  pub start_size_le : (v : ℕ) → v < n → start n parent v + size n parent v ≤ n
  start_size_le v h = omega (arith, rank_size n forest v h, rank_lt v h)
