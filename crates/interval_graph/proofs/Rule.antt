-- The rule on two windows' numbers: it gives a count exactly if that is the least number of handovers between the two,
-- and no chain exactly if none joins them.
-- Vocabulary: outcome, between, comes_first, equal, numbers_of.
-- Assumes nothing.
use Prim.Native.Nat.{ℕ, zero, suc, ◌+◌, ◌-◌, ◌≤◌, ◌<◌, min, max}
use mathlib.Core.Bool.{Bool, true, false, cond, ◌&&◌, ◌||◌}
use mathlib.Core.{Path.◌≡◌, Path.refl, Path.sym, Path.ap, Path.◌∙◌, Logic.⊎_elim, Logic.◌↔◌}
use native.Mathlib.Omega.{arith}
use lib.Dec.{ltb, leb, eqb}
use borrow.Author.Tests.{ltb-true, ltb-false, leb-true, leb-false, eqb-true, lt-ltb, le-ltb, eq-eqb, ne_eqb}
use Rattle.sequences.proofs.Tests.{cond_cases, lt_or_ge, equal_or_not, truth, and_left, and_right, and_intro, or_false_right, or_left, or_right}
use Rattle.interval_graph.specs.{Order.IntervalOrder, Chain.handovers, Chain.Joined, Chain.LeastHandovers}
use Rattle.interval_graph.specs.Tree.{last, ancestor, depth, root, component, rank, last_rank}
use Rattle.interval_graph.specs.Walk.{climb, walk, chain_of}
use Rattle.interval_graph.specs.Numbers.{Numbers, numbers_of, apart, no_chain, equal, comes_first, outcome_by, between, outcome}
use Rattle.interval_graph.proofs.{Ancestor.ancestor_zero, Monotone.depth_monotone}
use Rattle.interval_graph.proofs.Component.{root_component, component_root}
use Rattle.interval_graph.proofs.Chains.{handovers_alone, least_handovers_joined}
use Rattle.interval_graph.proofs.{Climb.climb_le_position, Walk.walk_handovers}
use Rattle.interval_graph.proofs.ShortestChain.{chain_same, chain_walk, chain_symmetric, joined_root, root_joined, chain_least, least_is_chain}
use Rattle.interval_graph.proofs.{Before.rank_lt_iff, Rank.rank_injective}
use Rattle.interval_graph.proofs.Level.{Pair, climb_at_level, climb_past_level, climb_below_level, climb_to_level, ranks_at_level, ranks_below_level}
use Rattle.interval_graph.proofs.Parent.{tree}

-- Equal numbers agree in the component and in the rank.
pub equal_component : (x y : Numbers) → equal x y ≡ true → x.component ≡ y.component
unfolding equal
equal_component x y t =
    let r = eqb x.depth y.depth && (eqb x.rank y.rank && eqb x.last y.last) in eqb-true x.component y.component
    (and_left (eqb x.component y.component) r (and_right (eqb x.plan y.plan) (eqb x.component y.component && r) t))

pub equal_rank : (x y : Numbers) → equal x y ≡ true → x.rank ≡ y.rank
unfolding equal
equal_rank x y t =
    let r = eqb x.rank y.rank && eqb x.last y.last in
    let d = eqb x.depth y.depth && r in let c = eqb x.component y.component && d in
    eqb-true x.rank y.rank (and_left (eqb x.rank y.rank) (eqb x.last y.last)
    (and_right (eqb x.depth y.depth) r (and_right (eqb x.component y.component) d (and_right (eqb x.plan y.plan) c t))))

-- Numbers are equal to themselves.
eqb_self : (k : ℕ) → eqb k k ≡ true
eqb_self k = eq-eqb k k refl

equal_self : (x : Numbers) → equal x x ≡ true
unfolding equal
equal_self x = rw (eqb_self x.plan, eqb_self x.component, eqb_self x.depth, eqb_self x.rank, eqb_self x.last)

module _ {n : ℕ} {overlaps : ℕ → ℕ → Bool} (ok : IntervalOrder n overlaps) where
  -- The count for u before v in one component, v deeper by D, where the ancestor of v on u's level is not behind u.
  between_second : (u v D : ℕ) → Pair n overlaps u v D → ancestor overlaps D v ≤ u →
      cond (leb (rank n overlaps v) (rank n overlaps (last n overlaps u)) && ltb (rank n overlaps (last n overlaps u)) (rank n overlaps u)) D (D + 1)
      ≡ suc (climb n overlaps u v)
  between_second u v zero p h = absurd (omega (arith, ancestor_zero (tree overlaps) v, p.order))
  between_second u v (suc D) p h =
      let x = ancestor overlaps D v in let z = last n overlaps u in
      cond_cases (λ k. k ≡ suc (climb n overlaps u v)) (leb (rank n overlaps v) (rank n overlaps z) && ltb (rank n overlaps z) (rank n overlaps u))
      (λ s. omega (arith, climb_below_level ok u v D p (leb-true x z (sym (ranks_below_level ok u v D p) ∙ s))))
      (λ s. omega (arith, climb_to_level ok u v D p h (leb-false x z (sym (ranks_below_level ok u v D p) ∙ s))))

  -- The count for u before v in one component, v deeper by D.
  between_pair : (u v p q D : ℕ) → Pair n overlaps u v D → between (numbers_of n overlaps p u) (numbers_of n overlaps q v) ≡ suc (climb n overlaps u v)
  unfolding between numbers_of last_rank
  between_pair u v p q D r =
      let e : depth overlaps v - depth overlaps u ≡ D = omega (arith, r.levels) in
      let w = ancestor overlaps D v in let z = last n overlaps u in
      let less = rank_lt_iff ok u v D (omega (arith, r.order, r.window)) r.window r.one_root r.levels in
      let counted : ℕ → Type 0 = λ k. k ≡ suc (climb n overlaps u v) in
      rw e (cond_cases counted (ltb (rank n overlaps u) (rank n overlaps v))
      (λ t. let b : u < w = less.0 (ltb-true (rank n overlaps u) (rank n overlaps v) t) in
      cond_cases counted (leb (rank n overlaps v) (rank n overlaps z) || ltb (rank n overlaps z) (rank n overlaps u))
      (λ s. omega (arith, climb_at_level ok u v D r b (leb-true w z (sym (ranks_at_level ok u v D r) ∙ s))))
      (λ s. omega (arith, climb_past_level ok u v D r b (leb-false w z (sym (ranks_at_level ok u v D r) ∙ s)))))
      (λ t. between_second u v D r
      (⊎_elim (λ b. absurd (omega (arith, less.1 b, ltb-false (rank n overlaps u) (rank n overlaps v) t))) (λ b. b) (lt_or_ge u w))))

  -- For u before v in one component the rule counts one more than the steps up from v.
  pub between_climb : (u v p q : ℕ) → u < v → v < n → root overlaps u ≡ root overlaps v →
      between (numbers_of n overlaps p u) (numbers_of n overlaps q v) ≡ suc (climb n overlaps u v)
  between_climb u v p q h g e =
      between_pair u v p q (depth overlaps v - depth overlaps u)
      (record { order = h; window = g; one_root = e; levels = omega (arith, depth_monotone ok u v (omega arith) g e) })

  -- The numbers tell which window is the earlier: it comes first.
  pub first_earlier : (u v p q : ℕ) → u < v → v < n → root overlaps u ≡ root overlaps v →
      comes_first (numbers_of n overlaps p u) (numbers_of n overlaps q v) ≡ true
  unfolding comes_first numbers_of
  first_earlier u v p q h g e =
      let i = depth overlaps u in let j = depth overlaps v in let x = rank n overlaps u in let y = rank n overlaps v in
      let s = ltb i j in let a = eqb i j in let b = ltb x y in
      ⊎_elim (λ l. or_left s (a && b) (lt-ltb i j l)) (λ l. let d : i ≡ j = omega (arith, depth_monotone ok u v (omega arith) g e) in
      let r = (rank_lt_iff ok u v 0 (omega arith) g e (omega arith)).1 (omega (arith, ancestor_zero (tree overlaps) v)) in
      or_right s (a && b) (and_intro a b (eq-eqb i j d) (lt-ltb x y r))) (lt_or_ge i j)

  -- The later window does not come first.
  pub first_not_later : (u v p q : ℕ) → u < v → v < n → root overlaps u ≡ root overlaps v →
      comes_first (numbers_of n overlaps p v) (numbers_of n overlaps q u) ≡ false
  unfolding comes_first numbers_of
  first_not_later u v p q h g e =
      let i = depth overlaps v in let j = depth overlaps u in let x = rank n overlaps v in let y = rank n overlaps u in
      let s = ltb i j in let a = eqb i j in let b = ltb x y in
      let no : (a && b) ≡ true → ⊥ = λ t. refuted (eqb-true i j (and_left a b t)) (ltb-true x y (and_right a b t)) in
      let second : (a && b) ≡ false = ⊎_elim (λ t. absurd (no t)) (λ t. t) (truth (a && b)) in
      or_false_right s (a && b) second ∙ le-ltb i j (depth_monotone ok u v (omega arith) g e)
    where
      refuted : depth overlaps v ≡ depth overlaps u → rank n overlaps v < rank n overlaps u → ⊥
      refuted d l = omega (arith, (rank_lt_iff ok v u 0 g (omega arith) (sym e) (omega arith)).0 l, ancestor_zero (tree overlaps) u)

  -- Two windows with equal component and equal rank are one window.
  pub same_window : (a b : ℕ) → a < n → b < n → component overlaps a ≡ component overlaps b → rank n overlaps a ≡ rank n overlaps b → a ≡ b
  same_window a b g l e s = rank_injective n (tree overlaps) a b g l (component_root (tree overlaps) a b e) s

  -- So two windows with equal numbers are one window.
  pub equal_window : (a b p q : ℕ) → a < n → b < n → equal (numbers_of n overlaps p a) (numbers_of n overlaps q b) ≡ true → a ≡ b
  unfolding numbers_of
  equal_window a b p q g l t = same_window a b g l (equal_component _ _ t) (equal_rank _ _ t)

  -- The chain between two windows of one component has one handover more than the steps up from the later.
  pub chain_handovers : (u v : ℕ) → u < v → v < n → root overlaps u ≡ root overlaps v → handovers (chain_of n overlaps u v) ≡ suc (climb n overlaps u v)
  chain_handovers u v h g e =
      let p : min u v ≡ u = omega arith in let q : max u v ≡ v = omega arith in
      let c = chain_walk n overlaps u v (λ s. omega arith) (rw (p, q) (climb_le_position ok u v e)) in
      let w : chain_of n overlaps u v ≡ walk n overlaps u v = rw (p, q) at c in ap handovers w ∙ walk_handovers n overlaps u v

  pub not_equal : (a b p : ℕ) → a < n → b < n → (a ≡ b → ⊥) → equal (numbers_of n overlaps p a) (numbers_of n overlaps p b) ≡ false
  not_equal a b p g l d =
      ⊎_elim (λ t. absurd (d (equal_window a b p p g l t))) (λ t. t) (truth (equal (numbers_of n overlaps p a) (numbers_of n overlaps p b)))

  -- The outcome for one window named twice, for two of one component, and for two of different components.
  outcome_self : (a p : ℕ) → outcome (numbers_of n overlaps p a) (numbers_of n overlaps p a) ≡ apart 0
  unfolding outcome_by
  outcome_self a p = rw (equal_self (numbers_of n overlaps p a))

  outcome_two : (a b p : ℕ) → a < n → b < n → (a ≡ b → ⊥) → root overlaps a ≡ root overlaps b → outcome (numbers_of n overlaps p a) (numbers_of n overlaps p b)
      ≡ apart (cond (comes_first (numbers_of n overlaps p a) (numbers_of n overlaps p b))
      (between (numbers_of n overlaps p a) (numbers_of n overlaps p b)) (between (numbers_of n overlaps p b) (numbers_of n overlaps p a)))
  unfolding outcome_by numbers_of
  outcome_two a b p g l d e =
      let t : equal (numbers_of n overlaps p a) (numbers_of n overlaps p b) ≡ false = not_equal a b p g l d in
      let s : eqb (component overlaps a) (component overlaps b) ≡ true = eq-eqb _ _ (root_component (tree overlaps) a b e) in rw (t, s)

  -- For windows of one component the outcome is the count of the chain between them.
  pub outcome_chain : (a b p : ℕ) → a < n → b < n → root overlaps a ≡ root overlaps b →
      outcome (numbers_of n overlaps p a) (numbers_of n overlaps p b) ≡ apart (handovers (chain_of n overlaps a b))
  outcome_chain a b p g l e =
      ⊎_elim (λ h. outcome_two a b p g l (λ s. omega arith) e
      ∙ rw (first_earlier a b p p h l e) (ap apart (between_climb a b p p h l e ∙ sym (chain_handovers a b h l e)))) (λ h. ⊎_elim
      (λ m. outcome_two a b p g l (λ s. omega arith) e ∙ rw (first_not_later b a p p m g (sym e))
      (ap apart (between_climb b a p p m g (sym e) ∙ (sym (chain_handovers b a m g (sym e)) ∙ ap handovers (chain_symmetric n overlaps b a)))))
      (λ m. let s : a ≡ b = omega arith in
      rw s (outcome_self b p ∙ ap apart (sym (ap handovers (chain_same n overlaps b b refl) ∙ handovers_alone b)))) (lt_or_ge b a))
      (lt_or_ge a b)

  -- For windows of two components it is no chain.
  pub outcome_none : (a b p : ℕ) → a < n → b < n → (root overlaps a ≡ root overlaps b → ⊥) →
      outcome (numbers_of n overlaps p a) (numbers_of n overlaps p b) ≡ no_chain
  unfolding outcome_by numbers_of
  outcome_none a b p g l d =
      let t : equal (numbers_of n overlaps p a) (numbers_of n overlaps p b) ≡ false = not_equal a b p g l (λ s. d (ap (root overlaps) s)) in
      let s : eqb (component overlaps a) (component overlaps b) ≡ false = ne_eqb _ _ (λ e. d (component_root (tree overlaps) a b e)) in
      rw (t, s)

  -- The outcome is the same in either order of naming.
  pub outcome_symmetric : (a b p : ℕ) → a < n → b < n →
      outcome (numbers_of n overlaps p a) (numbers_of n overlaps p b) ≡ outcome (numbers_of n overlaps p b) (numbers_of n overlaps p a)
  outcome_symmetric a b p g l =
      ⊎_elim (λ e. outcome_chain a b p g l e
      ∙ (ap (λ c. apart (handovers c)) (chain_symmetric n overlaps a b) ∙ sym (outcome_chain b a p l g (sym e))))
      (λ d. outcome_none a b p g l d ∙ sym (outcome_none b a p l g (λ e. d (sym e)))) (equal_or_not (root overlaps a) (root overlaps b))

  -- The outcome is a count exactly if that is the least number of handovers.
  pub outcome_apart : (a b p k : ℕ) → a < n → b < n →
      (outcome (numbers_of n overlaps p a) (numbers_of n overlaps p b) ≡ apart k) ↔ LeastHandovers n overlaps a b k
  outcome_apart a b p k g l = (to, from)
    where
      to : outcome (numbers_of n overlaps p a) (numbers_of n overlaps p b) ≡ apart k → LeastHandovers n overlaps a b k
      to o =
          ⊎_elim (λ e. let s : handovers (chain_of n overlaps a b) ≡ k = cc (outcome_chain a b p g l e) in
          rw s at (chain_least ok a b g l (root_joined ok a b g l e)))
          (λ d. let z : ◌≡◌ {A = ℕ} 0 1 = cc (outcome_none a b p g l d) in absurd (omega arith))
          (equal_or_not (root overlaps a) (root overlaps b))

      from : LeastHandovers n overlaps a b k → outcome (numbers_of n overlaps p a) (numbers_of n overlaps p b) ≡ apart k
      from q =
          outcome_chain a b p g l (joined_root ok a b (least_handovers_joined n overlaps a b k q))
          ∙ ap apart (sym (least_is_chain ok a b k g l q))

  -- It is no chain exactly if none joins the two.
  pub outcome_no_chain : (a b p : ℕ) → a < n → b < n → (outcome (numbers_of n overlaps p a) (numbers_of n overlaps p b) ≡ no_chain) ↔ (Joined n overlaps a b → ⊥)
  outcome_no_chain a b p g l =
      let root = joined_root ok a b in let chain = root_joined ok a b g l in
      (λ o j. let z : ◌≡◌ {A = ℕ} 0 1 = cc (outcome_chain a b p g l (root j)) in omega arith, λ d. outcome_none a b p g l (λ e. d (chain e)))
