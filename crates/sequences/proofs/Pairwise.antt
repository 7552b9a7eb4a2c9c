-- Lists of numbers that are pairwise in a relation: of two entries the earlier stands in it to the later. For a
-- relation in which nothing stands to itself such a list holds each of its elements once.
-- Vocabulary: Pairwise.
-- Assumes nothing.
use Prim.Native.Nat.{ℕ, zero, suc, ◌+◌, ◌≤◌, ◌<◌}
use mathlib.Core.{Bool.Bool, Path.◌≡◌, Path.refl, Path.sym, Path.ap, Path.◌∙◌, Logic.⊎_elim}
use mathlib.Core.List.Memᴰ
use mathlib.Core.List.{List, [], ◌∷◌, ◌++◌, flat_map, Memᴰ}
use native.Mathlib.Omega.{arith}
use lib.{Dec.ltb, Dec.eqb, Dec.leb-suc-suc, ListN.length, ListN.get_or}
use borrow.Author.Tests.{eqb-true, eqb-false, lt-ltb, le-ltb}
use Rattle.sequences.specs.{Search.count, Search.passing, Lists.index_of}
use Rattle.sequences.proofs.Tests.{cond_cases, truth}
use Rattle.sequences.proofs.{Search.count_le, Search.count_insert, Search.count_none, Passing.passing_sound}
use Rattle.sequences.proofs.{Lists.index_here, Lists.index_there, Lists.index_absent, Lists.get_or_member, FlatMap.flat_map_sound}

member_tail : (x z : ℕ) (l : List ℕ) → (x ≡ z → ⊥) → Memᴰ x (z ∷ l) → Memᴰ x l
member_tail x z l d h = ⊎_elim (λ e. absurd (d e)) (λ g. g) (Memᴰ.cases_cons h)

-- Of two entries the earlier stands in the relation to the later.
abbrev pub Pairwise : (ℕ → ℕ → Type 0) → List ℕ → Type 0
Pairwise R [] = Unit {0}
Pairwise R (x ∷ l) = ((y : ℕ) → Memᴰ y l → R x y) × Pairwise R l

module _ (R : ℕ → ℕ → Type 0) where
  -- Two pairwise lists, each entry of the one in the relation to each of the other, one after the other.
  pub pairwise_append : (l m : List ℕ) → Pairwise R l → Pairwise R m → ((x y : ℕ) → Memᴰ x l → Memᴰ y m → R x y) → Pairwise R (l ++ m)
  pairwise_append [] m p q c = q
  pairwise_append (x ∷ l) m p q c =
      (λ y h. ⊎_elim (p.0 y) (c x y (Memᴰ.head refl)) (Memᴰ.append_cases l h), pairwise_append l m p.1 q (λ a b g. c a b (Memᴰ.tail g)))

  -- The lists of pairwise elements, each pairwise, one after another.
  pub pairwise_flat_map : (S : ℕ → ℕ → Type 0) (f : ℕ → List ℕ) (l : List ℕ) → Pairwise S l → ((c : ℕ) → Memᴰ c l → Pairwise R (f c)) →
      ((c d x y : ℕ) → Memᴰ c l → Memᴰ d l → S c d → Memᴰ x (f c) → Memᴰ y (f d) → R x y) → Pairwise R (flat_map f l)
  unfolding flat_map
  pairwise_flat_map S f [] s p c = tt
  pairwise_flat_map S f (z ∷ l) s p c =
      pairwise_append (f z) (flat_map f l) (p z (Memᴰ.head refl))
      (pairwise_flat_map S f l s.1 (λ d h. p d (Memᴰ.tail h)) (λ a b x y g h. c a b x y (Memᴰ.tail g) (Memᴰ.tail h)))
      (λ x y g h. let r = flat_map_sound f l y h in
      c z r.0 x y (Memᴰ.head refl) (Memᴰ.tail r.1) (s.0 r.0 r.1) g r.2)

  -- Of two elements the one with the smaller index stands in the relation to the other.
  pub pairwise_index : (l : List ℕ) (x y : ℕ) → Pairwise R l → Memᴰ x l → Memᴰ y l → index_of x l < index_of y l → R x y
  pairwise_index [] x y p g h i = absurd (Memᴰ.not-nil g)
  pairwise_index (z ∷ l) x y p g h i =
      ⊎_elim (λ t. absurd (omega (arith, index_here y z l (eqb-true y z t))))
      (λ t. let d = eqb-false y z t in let behind : Memᴰ y l = member_tail y z l d h in
      ⊎_elim (λ s. rw (eqb-true x z s) (p.0 y behind)) (λ s. let e = eqb-false x z s in
      pairwise_index l x y p.1 (member_tail x z l e g) behind (omega (arith, index_there x z l e, index_there y z l d)))
      (truth (eqb x z))) (truth (eqb y z))

  module _ (irreflexive : (x : ℕ) → R x x → ⊥) where
    -- The first entry does not come again.
    pub pairwise_fresh : (z : ℕ) (l : List ℕ) → Pairwise R (z ∷ l) → Memᴰ z l → ⊥
    pairwise_fresh z l p h = irreflexive z (p.0 z h)

    -- Each entry is the first of its kind.
    pub pairwise_once : (l : List ℕ) (i : ℕ) → Pairwise R l → i < length l → index_of (get_or l i 0) l ≡ i
    pairwise_once [] i p h = absurd (omega arith)
    pairwise_once (z ∷ l) zero p h = index_here z z l refl
    pairwise_once (z ∷ l) (suc i) p h =
        index_there (get_or l i 0) z l (λ e. pairwise_fresh z l p (rw e at (get_or_member l i (omega arith))))
        ∙ ap suc (pairwise_once l i p.1 (omega arith))

    -- A list of numbers below n has as many entries as numbers below n are in it.
    pub pairwise_count : (l : List ℕ) (n : ℕ) → Pairwise R l → ((x : ℕ) → Memᴰ x l → x < n) → count (λ k. ltb (index_of k l) (length l)) n ≡ length l
    unfolding count
    pairwise_count [] n p b =
        let e : n ≡ 0 + n = omega arith in ap (count (λ k. ltb (index_of k []) 0)) e
        ∙ count_none (λ k. ltb (index_of k []) 0) 0 n (λ i h g. le-ltb (index_of i []) 0 (omega arith))
    pairwise_count (z ∷ l) n p b =
        count_insert (λ k. ltb (index_of k l) (length l)) (λ k. ltb (index_of k (z ∷ l)) (length (z ∷ l))) z n (b z (Memᴰ.head refl))
        (le-ltb (index_of z l) (length l) (omega (arith, index_absent z l (pairwise_fresh z l p))))
        (lt-ltb (index_of z (z ∷ l)) (length (z ∷ l)) (omega (arith, index_here z z l refl)))
        (λ k d. sym (ap (λ i. ltb i (length (z ∷ l))) (index_there k z l d) ∙ leb-suc-suc (suc (index_of k l)) (length l)))
        ∙ ap suc (pairwise_count l n p.1 (λ x h. b x (Memᴰ.tail h)))

    -- So it has at most n entries.
    pub pairwise_length : (l : List ℕ) (n : ℕ) → Pairwise R l → ((x : ℕ) → Memᴰ x l → x < n) → length l ≤ n
    pairwise_length l n p b = omega (arith, pairwise_count l n p b, count_le (λ k. ltb (index_of k l) (length l)) n)

-- Numbers that pass a test are listed in rising order.
pub passing_rises : (p : ℕ → Bool) (a k : ℕ) → Pairwise (λ x y. x < y) (passing p a k)
unfolding passing
passing_rises p a zero = tt
passing_rises p a (suc k) =
    cond_cases (Pairwise (λ x y. x < y)) (p a) (λ t. (λ y h. omega (arith, passing_sound p (suc a) k y h), passing_rises p (suc a) k))
    (λ t. passing_rises p (suc a) k)
