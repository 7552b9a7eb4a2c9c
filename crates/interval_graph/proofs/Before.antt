-- Ranks, compared: in one component, for x no deeper than y, x has the smaller rank exactly if x stands before y's
-- ancestor on x's level. To show it, that is made an order of its own, `Before`; in interval order post-order is pairwise in it.
-- Vocabulary: rank, Before.
-- Assumes nothing.
use Prim.Native.Nat.{ℕ, suc, ◌+◌, ◌-◌, ◌≤◌, ◌<◌}
use mathlib.Core.{Bool.Bool, Path.◌≡◌, Path.sym, Path.◌∙◌, Logic.⊎_elim, Logic.◌↔◌}
use mathlib.Core.List.Memᴰ
use mathlib.Core.List.{[], ◌∷◌, flat_map, Memᴰ}
use native.Mathlib.Omega.{arith}
use Rattle.sequences.proofs.{Tests.lt_or_ge, FlatMap.flat_map_sound}
use Rattle.sequences.proofs.Pairwise.{Pairwise, pairwise_append, pairwise_flat_map, pairwise_index}
use Rattle.interval_graph.specs.{Order.IntervalOrder, Tree.parent, Tree.ancestor, Tree.depth, Tree.root, Tree.component, Tree.rank}
use Rattle.interval_graph.specs.Forest.{children, post_order}
use Rattle.interval_graph.specs.Forest as Forest
use Rattle.interval_graph.proofs.{Monotone.ancestor_monotone, Ancestor.ancestor_zero, Ancestor.ancestor_add, Ancestor.ancestor_below}
use Rattle.interval_graph.proofs.{Depth.root_le, Component.component_root}
use Rattle.interval_graph.proofs.PostOrder.{Child, Under, children_sound, children_rise, child_depth, by_children}
use Rattle.interval_graph.proofs.PostOrder.{post_order-children, under_child, post_order_sound}
use Rattle.interval_graph.proofs.{Rank.rank_injective, Rank.rank_member, Parent.tree}

-- x comes before y: if it is no deeper, it stands before y's ancestor on its own level; if it is deeper, its ancestor
-- on y's level does not stand behind y.
pub record Before (overlaps : ℕ → ℕ → Bool) (x y : ℕ) : Type 0 where
  pub no_deeper : (k : ℕ) → depth overlaps y ≡ depth overlaps x + k → x < ancestor overlaps k y
  pub deeper : (k : ℕ) → depth overlaps x ≡ depth overlaps y + suc k → ancestor overlaps (suc k) x ≤ y

module _ (overlaps : ℕ → ℕ → Bool) where
  -- Of two windows one at most comes before the other.
  pub before_asymmetric : (x y : ℕ) → Before overlaps x y → Before overlaps y x → ⊥
  before_asymmetric x y p q =
      ⊎_elim (λ h. let k = depth overlaps y - suc (depth overlaps x) in
      omega (arith, p.no_deeper (suc k) (omega arith), q.deeper k (omega arith)))
      (λ h. ⊎_elim (λ g. let k = depth overlaps x - suc (depth overlaps y) in
      omega (arith, q.no_deeper (suc k) (omega arith), p.deeper k (omega arith)))
      (λ g. omega (arith, p.no_deeper 0 (omega arith), q.no_deeper 0 (omega arith), ancestor_zero (tree overlaps) x, ancestor_zero (tree overlaps) y))
      (lt_or_ge (depth overlaps y) (depth overlaps x))) (lt_or_ge (depth overlaps x) (depth overlaps y))

  -- No window comes before itself.
  pub before_irreflexive : (x : ℕ) → Before overlaps x x → ⊥
  before_irreflexive x p = before_asymmetric x x p p

module _ {n : ℕ} {overlaps : ℕ → ℕ → Bool} (ok : IntervalOrder n overlaps) where
  -- What is under the earlier of two windows of one level comes before what is under the later.
  before_subtrees : (c d x y : ℕ) → c < d → depth overlaps c ≡ depth overlaps d → Under n (parent overlaps) c x →
      Under n (parent overlaps) d y → Before overlaps x y
  before_subtrees c d x y h e p q =
      record {
        no_deeper = λ k s. let a = ancestor overlaps k y in
            ⊎_elim (λ g. g) (λ g. let up = level-up k y p.steps q.steps (omega (arith, p.deeper, q.deeper)) in
            absurd (omega (arith, ancestor_monotone ok p.steps a x g p.window, p.up, up, q.up))) (lt_or_ge x a);
        deeper = λ k s. let a = ancestor overlaps (suc k) x in let window = ancestor_below (tree overlaps) (suc k) x p.window in
            ⊎_elim (λ g. let up = level-up (suc k) x q.steps p.steps (omega (arith, p.deeper, q.deeper)) in
            absurd (omega (arith, ancestor_monotone ok q.steps y a (omega arith) window, q.up, up, p.up))) (λ g. g) (lt_or_ge y a);
      }
    where
      level-up : (k z i j : ℕ) → j ≡ i + k → ancestor overlaps i (ancestor overlaps k z) ≡ ancestor overlaps j z
      level-up k z i j e = rw e (sym (ancestor_add (tree overlaps) i k z))

  -- What is under v, and deeper, comes before v.
  before_top : (v x : ℕ) → Under n (parent overlaps) v x → depth overlaps v < depth overlaps x → Before overlaps x v
  before_top v x u d =
      record {
        no_deeper = λ j s. absurd (omega arith);
        deeper = λ j s. let i : suc j ≡ u.steps = omega (arith, u.deeper) in rw i (omega (arith, u.up));
      }

  -- So the lists of two children, and then the window itself, follow one another in that order.
  between_children : (v c d x y : ℕ) → Memᴰ c (children n (parent overlaps) v) → Memᴰ d (children n (parent overlaps) v) → c < d →
      Memᴰ x (post_order n (parent overlaps) c) → Memᴰ y (post_order n (parent overlaps) d) → Before overlaps x y
  between_children v c d x y p q l a b =
      let i = children_sound n (tree overlaps) v c p in let j = children_sound n (tree overlaps) v d q in
      let level = child_depth n (tree overlaps) v c i ∙ sym (child_depth n (tree overlaps) v d j) in
      before_subtrees c d x y l level (post_order_sound n (tree overlaps) c x i.window a) (post_order_sound n (tree overlaps) d y j.window b)

  children_first : (v x y : ℕ) → Memᴰ x (flat_map (post_order n (parent overlaps)) (children n (parent overlaps) v)) →
      Memᴰ y (v ∷ []) → Before overlaps x y
  children_first v x y m e =
      let s : y ≡ v = Memᴰ.eq_of_singleton e in
      let r = flat_map_sound (post_order n (parent overlaps)) (children n (parent overlaps) v) x m in
      let k = children_sound n (tree overlaps) v r.0 r.1 in let u = post_order_sound n (tree overlaps) r.0 x k.window r.2 in
      rw s (before_top v x (under_child n (tree overlaps) v r.0 x k u) (omega (arith, child_depth n (tree overlaps) v r.0 k, u.deeper)))

  -- The post-order list of a window is pairwise in that order.
  pub post_order_pairwise : (v : ℕ) → v < n → Pairwise (Before overlaps) (post_order n (parent overlaps) v)
  post_order_pairwise v h = by_children n (tree overlaps) (λ v. Pairwise (Before overlaps) (post_order n (parent overlaps) v)) step v h
    where
      step : (v : ℕ) → v < n → ((c : ℕ) → Child n (parent overlaps) v c → Pairwise (Before overlaps) (post_order n (parent overlaps) c)) →
          Pairwise (Before overlaps) (post_order n (parent overlaps) v)
      step v h below =
          let P = post_order n (parent overlaps) in let C = children n (parent overlaps) v in
          rw (post_order-children n (tree overlaps) v h) (pairwise_append (Before overlaps) (flat_map P C) (v ∷ [])
          (pairwise_flat_map (Before overlaps) (λ x y. x < y) P C (children_rise n (tree overlaps) v)
          (λ c m. below c (children_sound n (tree overlaps) v c m)) (between_children v)) (λ y m. absurd (Memᴰ.not-nil m), tt) (children_first v))

  -- What has the smaller rank comes before.
  pub rank_before : (x y : ℕ) → x < n → y < n → root overlaps x ≡ root overlaps y → rank n overlaps x < rank n overlaps y → Before overlaps x y
  unfolding Forest.rank
  rank_before x y h g e l =
      let r = root overlaps y in
      pairwise_index (Before overlaps) (post_order n (parent overlaps) r) x y (post_order_pairwise r (omega (arith, root_le (tree overlaps) y)))
      (rw e at (rank_member n (tree overlaps) x h)) (rank_member n (tree overlaps) y g) (rw e at l)

  -- What comes before has the smaller rank.
  pub before_rank : (x y : ℕ) → x < n → y < n → root overlaps x ≡ root overlaps y → Before overlaps x y → rank n overlaps x < rank n overlaps y
  before_rank x y h g e p =
      ⊎_elim (λ l. l) (λ l. absurd (⊎_elim (λ m. before_asymmetric overlaps x y p (rank_before y x g h (sym e) m))
      (λ m. let s : x ≡ y = rank_injective n (tree overlaps) x y h g e (omega arith) in before_irreflexive overlaps y (rw s at p))
      (lt_or_ge (rank n overlaps y) (rank n overlaps x)))) (lt_or_ge (rank n overlaps x) (rank n overlaps y))

  -- For y deeper than x by k, x has the smaller rank exactly if it stands before the k-th ancestor of y.
  pub rank_lt_iff : (x y k : ℕ) → x < n → y < n → root overlaps x ≡ root overlaps y → depth overlaps y ≡ depth overlaps x + k →
      (rank n overlaps x < rank n overlaps y) ↔ (x < ancestor overlaps k y)
  rank_lt_iff x y k h g e d = (
    λ l. (rank_before x y h g e l).no_deeper k d,
    λ l. before_rank x y h g e
        (record { no_deeper = λ j s. let i : j ≡ k = omega arith in rw i l; deeper = λ j s. absurd (omega arith) }),
  )

  -- The same, of x no deeper than y in one component.
  pub rank_compare : (x y : ℕ) → x < n → y < n → component overlaps x ≡ component overlaps y → depth overlaps x ≤ depth overlaps y →
      (rank n overlaps x < rank n overlaps y) ↔ (x < ancestor overlaps (depth overlaps y - depth overlaps x) y)
  rank_compare x y h g e d = rank_lt_iff x y (depth overlaps y - depth overlaps x) h g (component_root (tree overlaps) x y e) (omega arith)
