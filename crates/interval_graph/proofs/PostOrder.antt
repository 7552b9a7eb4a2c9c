-- The post-order list of a window: the lists of its children, in order of position, and then the window. It holds the
-- windows under it, itself included, and those only.
-- Vocabulary: children, post_order, Under (a window under another, so many steps down).
-- Assumes nothing.
use Prim.Native.Nat.{ℕ, zero, suc, ◌+◌, ◌≤◌, ◌<◌}
use mathlib.Core.{Bool.◌&&◌, Path.◌≡◌, Path.refl, Path.sym, Path.ap, Path.◌∙◌, Logic.⊎_elim, Logic.◌↔◌}
use mathlib.Core.List.Memᴰ
use mathlib.Core.List.{List, [], ◌∷◌, ◌++◌, flat_map, Memᴰ}
use native.Mathlib.Omega.{arith}
use lib.Dec.{ltb, eqb}
use borrow.Author.Tests.{ltb-true, eqb-true, lt-ltb, eq-eqb}
use Rattle.sequences.proofs.Tests.{lt_or_ge, and_left, and_right, and_intro}
use Rattle.sequences.proofs.{Passing.passing_sound, Passing.passing_complete, Pairwise.Pairwise, Pairwise.passing_rises}
use Rattle.sequences.proofs.FlatMap.{flat_map_sound, flat_map_complete, flat_map_cong}
use Rattle.interval_graph.specs.Forest.{ancestor, depth, root, component, children, post_order_to, post_order, Forest}
use Rattle.interval_graph.proofs.Ancestor.{ancestor_zero, ancestor_suc, ancestor_le}
use Rattle.interval_graph.proofs.Depth.{depth_step, fixed_is_root, ancestor_past, root_of_ancestor}
use Rattle.interval_graph.proofs.Component.{root_component, component_root}

-- c is a child of v.
pub record Child (n : ℕ) (parent : ℕ → ℕ) (v c : ℕ) : Type 0 where
  pub behind : v < c
  pub window : c < n
  pub parent_is : parent c ≡ v

-- x is under v, so many steps down; v is under itself, 0 steps down.
pub record Under (n : ℕ) (parent : ℕ → ℕ) (v x : ℕ) : Type 0 where
  pub steps : ℕ
  pub up : ancestor parent steps x ≡ v
  pub deeper : depth parent x ≡ depth parent v + steps
  pub window : x < n

module _ (n : ℕ) {parent : ℕ → ℕ} (forest : Forest parent) where
  -- The list of children holds only children.
  pub children_sound : (v c : ℕ) → Memᴰ c (children n parent v) → Child n parent v c
  unfolding children
  children_sound v c m =
      let h = passing_sound (λ c. ltb v c && eqb (parent c) v) 0 n c m in
      record {
        behind = ltb-true v c (and_left (ltb v c) (eqb (parent c) v) h.2);
        window = omega arith;
        parent_is = eqb-true (parent c) v (and_right (ltb v c) (eqb (parent c) v) h.2);
      }

  -- The list of children holds every child.
  pub children_complete : (v c : ℕ) → Child n parent v c → Memᴰ c (children n parent v)
  unfolding children
  children_complete v c h =
      passing_complete (λ c. ltb v c && eqb (parent c) v) 0 n c (omega arith) (omega arith)
      (and_intro (ltb v c) (eqb (parent c) v) (lt-ltb v c h.behind) (eq-eqb (parent c) v h.parent_is))

  -- The children stand in order of position.
  pub children_rise : (v : ℕ) → Pairwise (λ x y. x < y) (children n parent v)
  unfolding children
  children_rise v = passing_rises (λ c. ltb v c && eqb (parent c) v) 0 n

  -- A child is one deeper.
  pub child_depth : (v c : ℕ) → Child n parent v c → depth parent c ≡ suc (depth parent v)
  child_depth v c h = depth_step forest c (omega (arith, h.parent_is, h.behind)) ∙ ap (λ x. suc (depth parent x)) h.parent_is

  -- What holds of a window once it holds of its children holds of every window.
  pub by_children : (P : ℕ → Type 0) → ((v : ℕ) → v < n → ((c : ℕ) → Child n parent v c → P c) → P v) → (v : ℕ) → v < n → P v
  by_children P step v h = go n v h (omega arith)
    where
      go : (levels v : ℕ) → v < n → n ≤ v + levels → P v
      go zero v h b = absurd (omega arith)
      go (suc levels) v h b = step v h (λ c k. go levels c k.window (omega (arith, k.behind)))

  -- As many levels as there are positions from v on are enough.
  pub levels_enough : (f g v : ℕ) → v < n → n ≤ v + f → n ≤ v + g → post_order_to n parent f v ≡ post_order_to n parent g v
  unfolding post_order_to
  levels_enough zero g v h a b = absurd (omega arith)
  levels_enough (suc f) zero v h a b = absurd (omega arith)
  levels_enough (suc f) (suc g) v h a b =
      ap (λ (l : List ℕ). l ++ (v ∷ [])) (flat_map_cong (post_order_to n parent f) (post_order_to n parent g) (children n parent v)
      (λ c m. let k = children_sound v c m in levels_enough f g c k.window (omega (arith, k.behind)) (omega (arith, k.behind))))

  levels_children : (f v : ℕ) → v < n → n ≤ v + f → post_order_to n parent f v ≡ flat_map (post_order n parent) (children n parent v) ++ (v ∷ [])
  unfolding post_order post_order_to
  levels_children zero v h b = absurd (omega arith)
  levels_children (suc f) v h b =
      ap (λ (l : List ℕ). l ++ (v ∷ [])) (flat_map_cong (post_order_to n parent f) (post_order n parent) (children n parent v)
      (λ c m. let k = children_sound v c m in levels_enough f n c k.window (omega (arith, k.behind)) (omega arith)))

  -- The list of v is the lists of its children, in order of position, and then v.
  pub post_order-children : (v : ℕ) → v < n → post_order n parent v ≡ flat_map (post_order n parent) (children n parent v) ++ (v ∷ [])
  unfolding post_order
  post_order-children v h = levels_children n v h (omega arith)

  -- steps down

  -- A window is under itself.
  pub under_self : (v : ℕ) → v < n → Under n parent v v
  under_self v h = record { steps = 0; up = ancestor_zero forest v; deeper = omega arith; window = h }

  -- What is under a child of v is under v.
  pub under_child : (v c x : ℕ) → Child n parent v c → Under n parent c x → Under n parent v x
  under_child v c x k u =
      record {
        steps = suc u.steps;
        up = ancestor_suc forest u.steps x ∙ (ap parent u.up ∙ k.parent_is);
        deeper = omega (arith, u.deeper, child_depth v c k);
        window = u.window;
      }

  -- A window under v is not before v.
  pub under_ge : (v x : ℕ) → Under n parent v x → v ≤ x
  under_ge v x u = omega (arith, u.up, ancestor_le forest u.steps x)

  -- A window under v has v's root.
  pub under_root : (v x : ℕ) → Under n parent v x → root parent x ≡ root parent v
  under_root v x u = sym (root_of_ancestor forest u.steps x) ∙ ap (root parent) u.up

  -- The list of v holds only what is under v.
  pub post_order_sound : (v x : ℕ) → v < n → Memᴰ x (post_order n parent v) → Under n parent v x
  post_order_sound v x h = by_children (λ v. Memᴰ x (post_order n parent v) → Under n parent v x) step v h
    where
      step : (v : ℕ) → v < n → ((c : ℕ) → Child n parent v c → Memᴰ x (post_order n parent c) → Under n parent c x) →
          Memᴰ x (post_order n parent v) → Under n parent v x
      step v h below m =
          ⊎_elim (λ g. let r = flat_map_sound (post_order n parent) (children n parent v) x g in let k = children_sound v r.0 r.1 in
          under_child v r.0 x k (below r.0 k r.2)) (λ g. let e : x ≡ v = Memᴰ.eq_of_singleton g in rw e (under_self v h))
          (Memᴰ.append_cases (flat_map (post_order n parent) (children n parent v)) (rw (post_order-children v h) at m))

  -- And all of it: whatever has v among its ancestors.
  pub post_order_complete : (k x v : ℕ) → x < n → ancestor parent k x ≡ v → Memᴰ x (post_order n parent v)
  post_order_complete zero x v h e =
      let s : x ≡ v = sym (ancestor_zero forest x) ∙ e in
      rw (post_order-children v (omega arith)) (Memᴰ.append_right (flat_map (post_order n parent) (children n parent v)) (Memᴰ.head s))
  post_order_complete (suc k) x v h e =
      let c = ancestor parent k x in let below : Memᴰ x (post_order n parent c) = post_order_complete k x c h refl in
      let p : parent c ≡ v = sym (ancestor_suc forest k x) ∙ e in let b : c < n = omega (arith, ancestor_le forest k x) in
      ⊎_elim (λ g. let m = children_complete v c (record { behind = omega arith; window = b; parent_is = p }) in
      rw (post_order-children v (omega arith)) (Memᴰ.append_left (v ∷ []) (flat_map_complete (post_order n parent) (children n parent v) c x m below)))
      (λ g. let s : v ≡ c = omega (arith, forest.parent_le c) in rw s below) (lt_or_ge (parent c) c)

  -- Of a root, the list holds the windows of its component, and those only.
  pub component_list : (r x : ℕ) → r < n → parent r ≡ r → Memᴰ x (post_order n parent r) ↔ ((x < n) × (component parent x ≡ component parent r))
  component_list r x h e =
      let own : root parent r ≡ r = fixed_is_root forest r e in (
        λ m. let u = post_order_sound r x h m in
            (u.window, root_component forest x r (under_root r x u)),
        λ q. post_order_complete (depth parent x) x r q.0 (ancestor_past forest x (depth parent x) (omega arith) ∙ (component_root forest x r q.1 ∙ own)),
      )
