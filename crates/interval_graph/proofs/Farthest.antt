-- Reach as a definition that computes, and what it means: `Far` is a pair of windows of one component that no two are farther apart than,
-- the first such pair; there is one at most, the definition finds it, and in interval order it is what `Farthest` says by chains.
-- Vocabulary: Far, reach, smaller, larger, Farthest.
-- Assumes nothing.
use Prim.Native.Nat.{ℕ, ◌≤◌, ◌<◌, min, max}
use mathlib.Core.{
  Bool.Bool,
  Bool.true,
  Bool.◌&&◌,
  Path.◌≡◌,
  Path.refl,
  Path.sym,
  Path.ap,
  Path.◌∙◌,
  Logic.◌⊎◌,
  Logic.inl,
  Logic.inr,
  Logic.⊎_elim,
}
use mathlib.Core.List.{List, [], ◌∷◌}
use native.Mathlib.Omega.{arith}
use lib.Dec.{ltb, leb, eqb}
use borrow.Author.Tests.{ltb-true, lt-ltb, leb-true, le-leb, eqb-true, eq-eqb}
use Rattle.sequences.proofs.Tests.{lt_or_ge, and_left, and_right, and_intro, true_false_absurd}
use Rattle.sequences.proofs.Search.{least_holds, least_minimal, greatest_ge, greatest_cases}
use Rattle.interval_graph.specs.{Order.IntervalOrder, Tree.root, Tree.component}
use Rattle.interval_graph.specs.Chain.{first_entry, handovers, leads, Joined, LeastHandovers, from_later}
use Rattle.interval_graph.specs.Reach.{Farthest, handovers_between, in_component, partner, first_with, reach, smaller, larger}
use Rattle.interval_graph.proofs.Component.{root_component, component_root}
use Rattle.interval_graph.proofs.Chains.{handovers_alone, chain_head, chain_not_empty, leads_chain, leads_first, later_leads}
use Rattle.interval_graph.proofs.ShortestChain.{chain_same, chain_symmetric, joined_root, root_joined, chain_least, least_is_chain}
use Rattle.interval_graph.proofs.{Bounds.least_lt, Parent.tree}

-- a and b are windows of at's component, a not behind b.
pub record Mates (n : ℕ) (overlaps : ℕ → ℕ → Bool) (at a b : ℕ) : Type 0 where
  pub order : a ≤ b
  pub window : b < n
  pub first_in : component overlaps a ≡ component overlaps at
  pub second_in : component overlaps b ≡ component overlaps at

pub record Far (n : ℕ) (overlaps : ℕ → ℕ → Bool) (at k u v : ℕ) : Type 0 where
  pub mates : Mates n overlaps at u v
  pub has : handovers_between n overlaps u v ≡ k
  pub none_more : (a b : ℕ) → Mates n overlaps at a b → handovers_between n overlaps a b ≤ k
  pub none_before : (a b : ℕ) → Mates n overlaps at a b → handovers_between n overlaps a b ≡ k → (u < a) ⊎ ((u ≡ a) × (v ≤ b))

-- Of two pairs neither of which comes before the other, one is the other.
neither_before : (u v a b : ℕ) → (u < a) ⊎ ((u ≡ a) × (v ≤ b)) → (a < u) ⊎ ((a ≡ u) × (b ≤ v)) → (u ≡ a) × (v ≡ b)
neither_before u v a b one other =
    ⊎_elim (λ l. ⊎_elim (λ m. absurd (omega arith)) (λ m. absurd (omega (arith, m.0))) other)
    (λ l. ⊎_elim (λ m. absurd (omega (arith, l.0))) (λ m. omega (arith, l.0, l.1, m.0, m.1)) other) one

module _ {n : ℕ} {overlaps : ℕ → ℕ → Bool} {at : ℕ} where
  -- There is one such pair at most.
  pub far_unique : (k u v j a b : ℕ) → Far n overlaps at k u v → Far n overlaps at j a b → (k ≡ j) × (u ≡ a) × (v ≡ b)
  far_unique k u v j a b p q =
      let same : k ≡ j = omega (arith, p.has, q.has, p.none_more a b q.mates, q.none_more u v p.mates) in
      let one = p.none_before a b q.mates (q.has ∙ sym same) in let other = q.none_before u v p.mates (p.has ∙ same) in
      let pair = neither_before u v a b one other in (same, pair.0, pair.1)

module _ {n : ℕ} {overlaps : ℕ → ℕ → Bool} (ok : IntervalOrder n overlaps) (at : ℕ) where
  -- The definition: a pair with k handovers is found, and no later one.
  found : (k a b : ℕ) → Mates n overlaps at a b → handovers_between n overlaps a b ≡ k → (first_with n overlaps at k ≤ a) × (partner n
      overlaps at k a ≤ b)
  unfolding first_with partner in_component
  found k a b m h =
      let p = partner n overlaps at k a in
      let second : p ≤ b = least_minimal (λ v. leb a v && (in_component n overlaps at v && eqb (handovers_between n overlaps a v) k)) n b
      (and_intro (leb a b) (in_component n overlaps at b && eqb (handovers_between n overlaps a b) k) (le-leb a b m.order)
      (and_intro (in_component n overlaps at b) (eqb (handovers_between n overlaps a b) k) (eq-eqb _ _ m.second_in) (eq-eqb _ _ h))) in (
        least_minimal (λ u. in_component n overlaps at u && ltb (partner n overlaps at k u) n) n a
            (and_intro (in_component n overlaps at a) (ltb p n) (eq-eqb _ _ m.first_in) (lt-ltb p n (omega (arith, m.window)))),
        second,
      )

  -- What is found is such a pair.
  pair_found : (k : ℕ) → first_with n overlaps at k < n → let u = first_with n overlaps at k in let v = partner n overlaps at k u in
      Mates n overlaps at u v × (handovers_between n overlaps u v ≡ k)
  unfolding first_with partner in_component
  pair_found k h =
      let u = first_with n overlaps at k in let v = partner n overlaps at k u in
      let both = least_holds (λ u. in_component n overlaps at u && ltb (partner n overlaps at k u) n) n h in
      let inside = and_left (in_component n overlaps at u) (ltb v n) both in
      let below : v < n = ltb-true v n (and_right (in_component n overlaps at u) (ltb v n) both) in
      let all = least_holds (λ v. leb u v && (in_component n overlaps at v && eqb (handovers_between n overlaps u v) k)) n below in
      let rest = and_right (leb u v) (in_component n overlaps at v && eqb (handovers_between n overlaps u v) k) all in (
        record {
          order = leb-true u v (and_left (leb u v) (in_component n overlaps at v && eqb (handovers_between n overlaps u v) k) all);
          window = below;
          first_in = eqb-true _ _ inside;
          second_in = eqb-true _ _ (and_left (in_component n overlaps at v) (eqb (handovers_between n overlaps u v) k) rest);
        },
        eqb-true _ _ (and_right (in_component n overlaps at v) (eqb (handovers_between n overlaps u v) k) rest),
      )

  -- Handovers between two windows of the component are below n, and none between a window and itself.
  between_below : (a b : ℕ) → Mates n overlaps at a b → handovers_between n overlaps a b < n
  unfolding handovers_between
  between_below a b m =
      let g : a < n = omega (arith, m.order, m.window) in
      let e : root overlaps a ≡ root overlaps b = component_root (tree overlaps) a b (m.first_in ∙ sym m.second_in) in
      least_lt ok a b _ g m.window (chain_least ok a b g m.window (root_joined ok a b g m.window e))

  pub between_itself : (a : ℕ) → handovers_between n overlaps a a ≡ 0
  unfolding handovers_between
  between_itself a = ap handovers (chain_same n overlaps a a refl) ∙ handovers_alone a

  -- The definition finds such a pair.
  pub reach_far : at < n → Far n overlaps at (reach n overlaps at) (smaller n overlaps at) (larger n overlaps at)
  unfolding reach smaller larger
  reach_far h =
      let k = reach n overlaps at in
      let pair = pair_found k some in
      record {
        mates = pair.0;
        has = pair.1;
        none_more = λ a b m.
            let j = handovers_between n overlaps a b in
            greatest_ge (λ k. ltb (first_with n overlaps at k) n) n 0 j (between_below a b m)
            (lt-ltb (first_with n overlaps at j) n (omega (arith, (found j a b m refl).0, m.order, m.window)));
        none_before = λ a b m e. first a b m e;
      }
    where
      itself : Mates n overlaps at at at
      itself = record { order = omega arith; window = h; first_in = refl; second_in = refl }

      some : first_with n overlaps at (reach n overlaps at) < n
      some =
          let first = first_with n overlaps at 0 in let below : first < n = omega (arith, (found 0 at at itself (between_itself at)).0) in
          ⊎_elim (λ c. ltb-true _ n c.1) (λ c. absurd (true_false_absurd _ (lt-ltb first n below) (c.1 0 (omega arith))))
          (greatest_cases (λ k. ltb (first_with n overlaps at k) n) n 0)

      first : (a b : ℕ) → Mates n overlaps at a b → handovers_between n overlaps a b ≡ reach n overlaps at →
          (smaller n overlaps at < a) ⊎ ((smaller n overlaps at ≡ a) × (larger n overlaps at ≤ b))
      first a b m e =
          let f = found (reach n overlaps at) a b m e in
          ⊎_elim (λ l. inl l) (λ l. let s : smaller n overlaps at ≡ a = omega (arith, f.0) in
          inr (s, rw s f.1)) (lt_or_ge (smaller n overlaps at) a)

  -- Windows that some chain joins are windows, of one component.
  joined_windows : (a b : ℕ) → Joined n overlaps a b → (a < n) × (b < n)
  unfolding first_entry
  joined_windows a b j = of-chain (from_later a b j.0) (later_leads n overlaps ok.symmetric a b j.0 j.1)
    where
      of-chain : (l : List ℕ) → leads n overlaps (max a b) (min a b) l ≡ true → (a < n) × (b < n)
      of-chain [] t = absurd (chain_not_empty n overlaps (leads_chain n overlaps (max a b) (min a b) [] t))
      of-chain (x ∷ l) t =
          let head = chain_head n overlaps x l (leads_chain n overlaps (max a b) (min a b) (x ∷ l) t) in
          omega (arith, head, leads_first n overlaps (max a b) (min a b) (x ∷ l) t)

  joined_mates : (a b : ℕ) → a ≤ b → Joined n overlaps at a → Joined n overlaps at b → Mates n overlaps at a b
  joined_mates a b o i j =
      record {
        order = o;
        window = (joined_windows at b j).1;
        first_in = root_component (tree overlaps) a at (sym (joined_root ok at a i));
        second_in = root_component (tree overlaps) b at (sym (joined_root ok at b j));
      }

  -- In interval order such a pair is what reach means.
  pub far_farthest : (k u v : ℕ) → at < n → Far n overlaps at k u v → Farthest n overlaps at k u v
  unfolding handovers_between
  far_farthest k u v h f =
      let m = f.mates in let g : u < n = omega (arith, m.order, m.window) in
      let join : (w : ℕ) → w < n → component overlaps w ≡ component overlaps at → Joined n overlaps at w
      = λ w l e. root_joined ok at w h l (component_root (tree overlaps) at w (sym e)) in
      let one = component_root (tree overlaps) u v (m.first_in ∙ sym m.second_in) in
      let counted : (a b j : ℕ) → Mates n overlaps at a b → LeastHandovers n overlaps a b j → j ≡ handovers_between n overlaps a b
      = λ a b j m c. least_is_chain ok a b j (omega (arith, m.order, m.window)) m.window c in
      record {
        in_order = m.order;
        smaller_joined = join u g m.first_in;
        larger_joined = join v m.window m.second_in;
        attained = rw f.has at (chain_least ok u v g m.window (root_joined ok u v g m.window one));
        none_more = λ a b j p q c. ⊎_elim
            (λ l. let w = joined_mates a b (omega arith) p q in omega (arith, counted a b j w c, f.none_more a b w))
            (λ l. let w = joined_mates b a l q p in let turned = ap handovers (chain_symmetric n overlaps a b) in
            let same = least_is_chain ok a b j (joined_windows at a p).1 (joined_windows at b q).1 c in
            omega (arith, same, turned, f.none_more b a w))
            (lt_or_ge a b);
        first = λ a b o p q c. let w = joined_mates a b o p q in f.none_before a b w (sym (counted a b k w c));
      }

  -- Its two are windows.
  pub farthest_windows : (k u v : ℕ) → Farthest n overlaps at k u v → (u < n) × (v < n)
  farthest_windows k u v f = ((joined_windows at u f.smaller_joined).1, (joined_windows at v f.larger_joined).1)

  -- A window that no chain joins with another is 0 handovers from itself, and that is all.
  pub farthest_alone : at < n → ((w : ℕ) → Joined n overlaps at w → w ≡ at) → Farthest n overlaps at 0 at at
  farthest_alone h all =
      let f = far_farthest (reach n overlaps at) (smaller n overlaps at) (larger n overlaps at) h (reach_far h) in
      let u : smaller n overlaps at ≡ at = all (smaller n overlaps at) f.smaller_joined in
      let v : larger n overlaps at ≡ at = all (larger n overlaps at) f.larger_joined in
      let k : reach n overlaps at ≡ 0 = sym (reach_far h).has ∙ (ap (handovers_between n overlaps (smaller n overlaps at)) (v ∙ sym u) ∙
      between_itself (smaller n overlaps at)) in
      rw (k, u, v) at f

-- Over any overlap test there is one such pair at most.
module _ (n : ℕ) (overlaps : ℕ → ℕ → Bool) (at : ℕ) where
  pub farthest_unique : (k u v j a b : ℕ) → Farthest n overlaps at k u v → Farthest n overlaps at j a b → (k ≡ j) × (u ≡ a) × (v ≡ b)
  farthest_unique k u v j a b p q =
      let same : k ≡ j = omega (
        arith,
        p.none_more a b j q.smaller_joined q.larger_joined q.attained,
        q.none_more u v k p.smaller_joined p.larger_joined p.attained,
      ) in
      let one = p.first a b q.in_order q.smaller_joined q.larger_joined (rw (← same) at q.attained) in
      let other = q.first u v p.in_order p.smaller_joined p.larger_joined (rw same at p.attained) in
      let pair = neither_before u v a b one other in (same, pair.0, pair.1)
