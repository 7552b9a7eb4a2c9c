-- Agreement: two parent functions that agree below n give each window below n the same numbers.
-- Vocabulary: depth, component, rank.
-- Assumes nothing.
use Prim.Native.Nat.{ℕ, zero, suc, ◌<◌}
use mathlib.Core.{Bool.◌&&◌, Path.◌≡◌, Path.refl, Path.ap, Path.◌∙◌, List.List, List.[], List.◌∷◌, List.◌++◌, List.flat_map}
use native.Mathlib.Omega.{arith}
use lib.Dec.{ltb, eqb}
use Rattle.sequences.specs.{Search.count, Lists.index_of}
use Rattle.sequences.proofs.{Search.least_cong, Search.count_cong, Passing.passing_cong, FlatMap.flat_map_cong}
use Rattle.interval_graph.specs.Forest.{is_root, ancestor, depth, root, component, children, post_order_to, post_order, rank, Forest}
use Rattle.interval_graph.proofs.{Ancestor.ancestor_below, Depth.root_le}

module _ {n : ℕ} {first second : ℕ → ℕ} (later : Forest second) (same : (v : ℕ) → v < n → first v ≡ second v) where
  -- Whether a window is a root depends on the parents of windows only.
  pub root_test_agrees : (v : ℕ) → v < n → is_root first v ≡ is_root second v
  unfolding is_root
  root_test_agrees v h = ap (λ (p : ℕ). eqb p v) (same v h)

  ancestor_agrees : (i v : ℕ) → v < n → ancestor first i v ≡ ancestor second i v
  unfolding ancestor
  ancestor_agrees zero v h = refl
  ancestor_agrees (suc i) v h = ap first (ancestor_agrees i v h) ∙ same (ancestor second i v) (ancestor_below later i v h)

  -- The depth depends on the parents of windows only.
  pub depth_agrees : (v : ℕ) → v < n → depth first v ≡ depth second v
  unfolding depth
  depth_agrees v h =
      least_cong (λ i. is_root first (ancestor first i v)) (λ i. is_root second (ancestor second i v)) v
      (λ i g. ap (is_root first) (ancestor_agrees i v h) ∙ root_test_agrees (ancestor second i v) (ancestor_below later i v h))

  root_agrees : (v : ℕ) → v < n → root first v ≡ root second v
  unfolding root
  root_agrees v h = ap (λ (d : ℕ). ancestor first d v) (depth_agrees v h) ∙ ancestor_agrees (depth second v) v h

  -- The component depends on the parents of windows only.
  pub component_agrees : (v : ℕ) → v < n → component first v ≡ component second v
  unfolding component
  component_agrees v h =
      ap (count (is_root first)) (root_agrees v h)
      ∙ count_cong (is_root first) (is_root second) (root second v) (λ k g. root_test_agrees k (omega (arith, root_le later v)))

  children_agrees : (v : ℕ) → children n first v ≡ children n second v
  unfolding children
  children_agrees v =
      passing_cong (λ c. ltb v c && eqb (first c) v) (λ c. ltb v c && eqb (second c) v) 0 n
      (λ k l r. ap (λ (p : ℕ). ltb v k && eqb p v) (same k (omega arith)))

  post_order_agrees : (levels v : ℕ) → post_order_to n first levels v ≡ post_order_to n second levels v
  unfolding post_order_to
  post_order_agrees zero v = refl
  post_order_agrees (suc levels) v =
      ap (λ (c : List ℕ). flat_map (post_order_to n first levels) c ++ (v ∷ [])) (children_agrees v) ∙ ap (λ (l : List ℕ). l ++ (v ∷ []))
      (flat_map_cong (post_order_to n first levels) (post_order_to n second levels) (children n second v) (λ c m. post_order_agrees levels c))

  -- The rank depends on the parents of windows only.
  pub rank_agrees : (v : ℕ) → v < n → rank n first v ≡ rank n second v
  unfolding rank post_order
  rank_agrees v h =
      ap (λ (r : ℕ). index_of v (post_order_to n first n r)) (root_agrees v h) ∙ ap (index_of v) (post_order_agrees n (root second v))
