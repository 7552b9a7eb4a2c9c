-- Steps up against any chain: i steps up from the later window one is at or before the chain's entry at i. So the steps
-- up to a position at most the earlier window's last are fewer than the handovers of any chain.
-- Vocabulary: climb, ancestor, last.
-- Assumes nothing.
use Prim.Native.Nat.{ℕ, zero, suc, ◌≤◌, ◌<◌}
use mathlib.Core.{Bool.Bool, Bool.true, Path.◌≡◌, Path.refl, Path.sym, Path.ap, Path.◌∙◌, Logic.⊎_elim, List.List, List.[], List.◌∷◌}
use native.Mathlib.Omega.{arith}
use lib.{Dec.leb, ListN.length, ListN.get_or}
use borrow.Author.Tests.{leb-true, leb-false, le-leb}
use Rattle.sequences.proofs.{Tests.lt_or_ge, Search.least_holds, Search.least_before, Search.least_minimal}
use Rattle.interval_graph.specs.{Order.IntervalOrder, Chain.last_entry, Chain.is_chain}
use Rattle.interval_graph.specs.{Tree.last, Tree.parent, Tree.ancestor, Tree.depth, Tree.root, Walk.climb}
use Rattle.interval_graph.proofs.{Last.last_ge, Last.neighbour_le_last, Parent.parent_least, Parent.tree}
use Rattle.interval_graph.proofs.Ancestor.{ancestor_zero, ancestor_parent, ancestor_antitone}
use Rattle.interval_graph.proofs.{Monotone.overlap_root, Depth.root_le, Depth.depth_le, Depth.ancestor_past}
use Rattle.interval_graph.proofs.Chains.{chain_head, chain_overlap, chain_tail}

-- climb, of any overlap test

module _ (n : ℕ) (overlaps : ℕ → ℕ → Bool) where
  -- As many steps up as lead to a position at most the last of u are enough.
  pub climb_le : (u v k : ℕ) → ancestor overlaps k v ≤ last n overlaps u → climb n overlaps u v ≤ k
  unfolding climb
  climb_le u v k h =
      least_minimal (λ j. leb (ancestor overlaps j v) (last n overlaps u)) (suc v) k (le-leb (ancestor overlaps k v) (last n overlaps u) h)

  -- Fewer lead to a position behind the last of u.
  pub climb_before : (u v k : ℕ) → k < climb n overlaps u v → last n overlaps u < ancestor overlaps k v
  unfolding climb
  climb_before u v k h =
      leb-false (ancestor overlaps k v) (last n overlaps u) (least_before (λ j. leb (ancestor overlaps j v) (last n overlaps u)) (suc v) k h)

  -- Where there are such steps, they lead there.
  pub climb_reaches : (u v : ℕ) → climb n overlaps u v ≤ v → ancestor overlaps (climb n overlaps u v) v ≤ last n overlaps u
  unfolding climb
  climb_reaches u v h =
      leb-true _ (last n overlaps u) (least_holds (λ j. leb (ancestor overlaps j v) (last n overlaps u)) (suc v) (omega arith))

  -- Where k steps lead behind the last of u, and some steps to it, more than k are needed.
  pub climb_gt : (u v k : ℕ) → climb n overlaps u v ≤ v → last n overlaps u < ancestor overlaps k v → k < climb n overlaps u v
  climb_gt u v k r h =
      ⊎_elim (λ g. g) (λ g. absurd (omega (arith, climb_reaches u v r, ancestor_antitone (tree overlaps) (climb n overlaps u v) k v g)))
      (lt_or_ge k (climb n overlaps u v))

module _ {n : ℕ} {overlaps : ℕ → ℕ → Bool} (ok : IntervalOrder n overlaps) where
  -- In one component the root is at most the last of any window, so the depth is enough.
  pub climb_le_depth : (u v : ℕ) → root overlaps u ≡ root overlaps v → climb n overlaps u v ≤ depth overlaps v
  climb_le_depth u v e =
      climb_le n overlaps u v (depth overlaps v)
      (omega (arith, ancestor_past (tree overlaps) v (depth overlaps v) (omega arith), root_le (tree overlaps) u, last_ge ok u))

  -- In one component there are such steps.
  pub climb_le_position : (u v : ℕ) → root overlaps u ≡ root overlaps v → climb n overlaps u v ≤ v
  climb_le_position u v e = omega (arith, climb_le_depth u v e, depth_le (tree overlaps) v)

  -- A position at most one of two windows that overlap has its parent at most the other.
  parent_le_neighbour : (x y w : ℕ) → x < n → overlaps x y ≡ true → w ≤ x → parent overlaps w ≤ y
  parent_le_neighbour x y w h t l = parent_least ok w y (omega (arith, neighbour_le_last ok y x h (ok.symmetric y x ∙ t)))

  -- From a position at most a chain's first entry, i steps up lead at or before its entry at i.
  pub ancestor_le_chain : (l : List ℕ) (x w i : ℕ) → is_chain n overlaps (x ∷ l) ≡ true → w ≤ x → i < length (x ∷ l) → ancestor overlaps i w ≤ get_or (x ∷ l) i 0
  ancestor_le_chain [] x w zero c h b = omega (arith, ancestor_zero (tree overlaps) w)
  ancestor_le_chain [] x w (suc i) c h b = absurd (omega arith)
  ancestor_le_chain (y ∷ l) x w zero c h b = omega (arith, ancestor_zero (tree overlaps) w)
  ancestor_le_chain (y ∷ l) x w (suc i) c h b =
      let p : parent overlaps w ≤ y = parent_le_neighbour x y w (chain_head n overlaps x (y ∷ l) c) (chain_overlap n overlaps x y l c) h in
      omega (arith, ancestor_parent (tree overlaps) i w, ancestor_le_chain l y (parent overlaps w) i (chain_tail n overlaps x y l c) p (omega arith))

  -- And one step less than its handovers leads to a position at most the last of its last entry.
  pub chain_climbs : (l : List ℕ) (x y w u : ℕ) → is_chain n overlaps (x ∷ (y ∷ l)) ≡ true → last_entry (x ∷ (y ∷ l)) ≡ u → w ≤ x →
      ancestor overlaps (length l) w ≤ last n overlaps u
  unfolding last_entry
  chain_climbs [] x y w u c e h =
      let t : overlaps u x ≡ true = ap (λ z. overlaps z x) (sym e) ∙ (ok.symmetric y x ∙ chain_overlap n overlaps x y [] c) in
      omega (arith, ancestor_zero (tree overlaps) w, neighbour_le_last ok u x (chain_head n overlaps x (y ∷ []) c) t)
  chain_climbs (z ∷ l) x y w u c e h =
      let p : parent overlaps w ≤ y = parent_le_neighbour x y w (chain_head n overlaps x (y ∷ (z ∷ l)) c) (chain_overlap n overlaps x y (z ∷ l) c) h in
      omega (arith, ancestor_parent (tree overlaps) (length l) w, chain_climbs l y z (parent overlaps w) u (chain_tail n overlaps x y (z ∷ l) c) e p)

  -- The windows of a chain are in one component.
  pub chain_root : (l : List ℕ) (x : ℕ) → is_chain n overlaps (x ∷ l) ≡ true → root overlaps x ≡ root overlaps (last_entry (x ∷ l))
  unfolding last_entry
  chain_root [] x c = refl
  chain_root (y ∷ l) x c =
      overlap_root ok x y (chain_head n overlaps x (y ∷ l) c) (chain_head n overlaps y l (chain_tail n overlaps x y l c)) (chain_overlap n overlaps x y l c)
      ∙ chain_root l y (chain_tail n overlaps x y l c)
