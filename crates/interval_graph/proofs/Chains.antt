-- Plain laws of chains, of any overlap test: how a chain is put together and taken apart, and, of a symmetric test,
-- that a chain read backwards is a chain, so that every chain that joins two windows can be read from the later.
-- Vocabulary: is_chain, leads, joins, handovers, first_entry, last_entry, from_later, LeastHandovers, Shortest.
-- Assumes nothing.
use Prim.Native.Nat.{ℕ, zero, suc, ◌-◌, ◌≤◌, ◌<◌, min, max}
use mathlib.Core.{Bool.Bool, Bool.true, Bool.cond, Bool.◌&&◌, Path.◌≡◌, Path.refl, Path.sym, Path.ap, Path.◌∙◌, Logic.◌⊎◌, Logic.⊎_elim}
use mathlib.Core.List.{List, [], ◌∷◌, ◌++◌, reverse, reverse-cons, reverse-reverse}
use native.Mathlib.Omega.{arith}
use lib.{Dec.ltb, Dec.eqb, ListN.get_or, ListN.length-reverse}
use borrow.Author.Tests.{ltb-true, lt-ltb, eqb-true, eqb-false, eq-eqb}
use Rattle.sequences.specs.Table.{table}
use Rattle.sequences.proofs.Tests.{cond_cases, and_left, and_right, and_intro, or_cases, or_left, or_right, true_false_absurd}
use Rattle.interval_graph.specs.Chain.{first_entry, last_entry, handovers, is_chain, leads, joins, Joined, LeastHandovers, Shortest, from_later}

-- first and last entries

-- A list that ends in y has y for its last entry.
pub last_snoc : (l : List ℕ) (y : ℕ) → last_entry (l ++ (y ∷ [])) ≡ y
unfolding last_entry
last_snoc [] y = refl
last_snoc (x ∷ []) y = refl
last_snoc (x ∷ (z ∷ l)) y = last_snoc (z ∷ l) y

-- The last entry of a table of k + 1 values is the value at k.
pub last_table : (f : ℕ → ℕ) (k : ℕ) → last_entry (table f (suc k)) ≡ f k
unfolding table
last_table f k = last_snoc (table f k) (f k)

-- Backwards, the last entry is the first.
pub last_reverse : (l : List ℕ) → last_entry (reverse l) ≡ first_entry l
unfolding last_entry first_entry
last_reverse [] = refl
last_reverse (x ∷ l) = ap last_entry (reverse-cons x l) ∙ last_snoc (reverse l) x

-- Backwards, the first entry is the last.
pub first_reverse : (l : List ℕ) → first_entry (reverse l) ≡ last_entry l
first_reverse l = sym (last_reverse (reverse l)) ∙ ap last_entry (reverse-reverse l)

-- The first entry stands at 0.
pub first_get_or : (l : List ℕ) → first_entry l ≡ get_or l 0 0
unfolding first_entry
first_get_or [] = refl
first_get_or (x ∷ l) = refl

-- One entry more in front is one handover more.
pub handovers_next : (x y : ℕ) (l : List ℕ) → handovers (x ∷ (y ∷ l)) ≡ suc (handovers (y ∷ l))
unfolding handovers
handovers_next x y l = omega arith

-- A window alone has no handover.
pub handovers_alone : (x : ℕ) → handovers (x ∷ []) ≡ 0
unfolding handovers
handovers_alone x = refl

-- The last entry stands at the number of handovers.
pub last-get_or : (l : List ℕ) → last_entry l ≡ get_or l (handovers l) 0
unfolding last_entry
last-get_or [] = refl
last-get_or (x ∷ []) = let e : handovers (x ∷ []) ≡ 0 = handovers_alone x in rw e
last-get_or (x ∷ (y ∷ l)) = rw handovers_next (last-get_or (y ∷ l))

-- Backwards there are as many handovers.
pub handovers_reverse : (l : List ℕ) → handovers (reverse l) ≡ handovers l
unfolding handovers
handovers_reverse l = ap (λ k. k - 1) (length-reverse l)

module _ (n : ℕ) (overlaps : ℕ → ℕ → Bool) where
  -- A chain's first window is a window.
  pub chain_head : (x : ℕ) (l : List ℕ) → is_chain n overlaps (x ∷ l) ≡ true → x < n
  unfolding is_chain
  chain_head x [] t = ltb-true x n t
  chain_head x (y ∷ l) t = ltb-true x n (and_left (ltb x n) (overlaps x y && is_chain n overlaps (y ∷ l)) t)

  -- A chain's first window overlaps the next.
  pub chain_overlap : (x y : ℕ) (l : List ℕ) → is_chain n overlaps (x ∷ (y ∷ l)) ≡ true → overlaps x y ≡ true
  unfolding is_chain
  chain_overlap x y l t =
      and_left (overlaps x y) (is_chain n overlaps (y ∷ l)) (and_right (ltb x n) (overlaps x y && is_chain n overlaps (y ∷ l)) t)

  -- Without its first window a chain of two or more is a chain.
  pub chain_tail : (x y : ℕ) (l : List ℕ) → is_chain n overlaps (x ∷ (y ∷ l)) ≡ true → is_chain n overlaps (y ∷ l) ≡ true
  unfolding is_chain
  chain_tail x y l t =
      and_right (overlaps x y) (is_chain n overlaps (y ∷ l)) (and_right (ltb x n) (overlaps x y && is_chain n overlaps (y ∷ l)) t)

  -- A window alone is a chain.
  pub chain_alone : (x : ℕ) → x < n → is_chain n overlaps (x ∷ []) ≡ true
  unfolding is_chain
  chain_alone x h = lt-ltb x n h

  -- A window that overlaps the first of a chain makes a chain with it.
  pub chain_cons : (x y : ℕ) (l : List ℕ) → x < n → overlaps x y ≡ true → is_chain n overlaps (y ∷ l) ≡ true → is_chain n overlaps (x ∷ (y ∷ l)) ≡ true
  unfolding is_chain
  chain_cons x y l h t c =
      and_intro (ltb x n) (overlaps x y && is_chain n overlaps (y ∷ l)) (lt-ltb x n h)
      (and_intro (overlaps x y) (is_chain n overlaps (y ∷ l)) t c)

  -- A chain is not empty.
  pub chain_not_empty : is_chain n overlaps [] ≡ true → ⊥
  unfolding is_chain
  chain_not_empty t = true_false_absurd _ t refl

  -- A chain goes on to a window that its last entry overlaps.
  pub chain_snoc : (l : List ℕ) (y : ℕ) → is_chain n overlaps l ≡ true → overlaps (last_entry l) y ≡ true → y < n → is_chain n overlaps (l ++ (y ∷ [])) ≡ true
  unfolding last_entry
  chain_snoc [] y c t h = absurd (chain_not_empty c)
  chain_snoc (x ∷ []) y c t h = chain_cons x y [] (chain_head x [] c) t (chain_alone y h)
  chain_snoc (x ∷ (z ∷ l)) y c t h =
      chain_cons x z (l ++ (y ∷ [])) (chain_head x (z ∷ l) c) (chain_overlap x z l c) (chain_snoc (z ∷ l) y (chain_tail x z l c) t h)

  -- A table of windows of which each overlaps the next is a chain.
  pub chain_table : (f : ℕ → ℕ) (k : ℕ) → ((i : ℕ) → i ≤ k → f i < n) → ((i : ℕ) → i < k → overlaps (f i) (f (suc i)) ≡ true) →
      is_chain n overlaps (table f (suc k)) ≡ true
  unfolding table
  chain_table f zero b t = chain_alone (f zero) (b zero (omega arith))
  chain_table f (suc k) b t =
      chain_snoc (table f (suc k)) (f (suc k)) (chain_table f k (λ i h. b i (omega arith)) (λ i h. t i (omega arith)))
      (ap (λ z. overlaps z (f (suc k))) (last_snoc (table f k) (f k)) ∙ t k (omega arith)) (b (suc k) (omega arith))

  -- What leads from a to b is a chain.
  pub leads_chain : (a b : ℕ) (l : List ℕ) → leads n overlaps a b l ≡ true → is_chain n overlaps l ≡ true
  unfolding leads
  leads_chain a b l t = and_left (is_chain n overlaps l) (eqb (first_entry l) a && eqb (last_entry l) b) t

  -- Its first entry is a.
  pub leads_first : (a b : ℕ) (l : List ℕ) → leads n overlaps a b l ≡ true → first_entry l ≡ a
  unfolding leads
  leads_first a b l t =
      eqb-true (first_entry l) a (and_left (eqb (first_entry l) a) (eqb (last_entry l) b)
      (and_right (is_chain n overlaps l) (eqb (first_entry l) a && eqb (last_entry l) b) t))

  -- Its last entry is b.
  pub leads_last : (a b : ℕ) (l : List ℕ) → leads n overlaps a b l ≡ true → last_entry l ≡ b
  unfolding leads
  leads_last a b l t =
      eqb-true (last_entry l) b (and_right (eqb (first_entry l) a) (eqb (last_entry l) b)
      (and_right (is_chain n overlaps l) (eqb (first_entry l) a && eqb (last_entry l) b) t))

  -- A chain with first entry a and last entry b leads from a to b.
  pub leads_intro : (a b : ℕ) (l : List ℕ) → is_chain n overlaps l ≡ true → first_entry l ≡ a → last_entry l ≡ b → leads n overlaps a b l ≡ true
  unfolding leads
  leads_intro a b l c p q =
      and_intro (is_chain n overlaps l) (eqb (first_entry l) a && eqb (last_entry l) b) c
      (and_intro (eqb (first_entry l) a) (eqb (last_entry l) b) (eq-eqb (first_entry l) a p) (eq-eqb (last_entry l) b q))

  -- A chain that joins a and b leads from a to b or from b to a.
  pub joins_cases : (a b : ℕ) (l : List ℕ) → joins n overlaps a b l ≡ true → (leads n overlaps a b l ≡ true) ⊎ (leads n overlaps b a l ≡ true)
  unfolding joins
  joins_cases a b l t = or_cases (leads n overlaps a b l) (leads n overlaps b a l) t

  -- A chain that leads from a to b joins a and b.
  pub leads_joins : (a b : ℕ) (l : List ℕ) → leads n overlaps a b l ≡ true → joins n overlaps a b l ≡ true
  unfolding joins
  leads_joins a b l t = or_left (leads n overlaps a b l) (leads n overlaps b a l) t

  -- A chain that joins a and b joins b and a.
  pub joins_swap : (a b : ℕ) (l : List ℕ) → joins n overlaps a b l ≡ true → joins n overlaps b a l ≡ true
  unfolding joins
  joins_swap a b l t =
      ⊎_elim (λ s. or_right (leads n overlaps b a l) (leads n overlaps a b l) s)
      (λ s. or_left (leads n overlaps b a l) (leads n overlaps a b l) s) (joins_cases a b l t)

  -- Nothing is joined by the empty list.
  pub joins_not_empty : (a b : ℕ) → joins n overlaps a b [] ≡ true → ⊥
  joins_not_empty a b t =
      ⊎_elim (λ s. chain_not_empty (leads_chain a b [] s)) (λ s. chain_not_empty (leads_chain b a [] s)) (joins_cases a b [] t)

  -- least numbers

  -- There is one least number of handovers.
  pub least_handovers_unique : (a b k j : ℕ) → LeastHandovers n overlaps a b k → LeastHandovers n overlaps a b j → k ≡ j
  least_handovers_unique a b k j p q =
      omega (arith, p.none_fewer q.attained.0 q.attained.1, q.none_fewer p.attained.0 p.attained.1, p.attained.2, q.attained.2)

  -- Where there is a least number, some chain joins the two.
  pub least_handovers_joined : (a b k : ℕ) → LeastHandovers n overlaps a b k → Joined n overlaps a b
  least_handovers_joined a b k p = (p.attained.0, p.attained.1)

  -- A shortest chain has the least number of handovers.
  pub shortest_least : (a b : ℕ) (l : List ℕ) → Shortest n overlaps a b l → LeastHandovers n overlaps a b (handovers l)
  shortest_least a b l s = record { attained = (l, s.joining, refl); none_fewer = s.none_shorter }

-- What is read backwards, of a symmetric test.
module _ (n : ℕ) (overlaps : ℕ → ℕ → Bool) (symmetric : (u v : ℕ) → overlaps u v ≡ overlaps v u) where
  -- A chain read backwards is a chain.
  pub chain_reverse : (l : List ℕ) → is_chain n overlaps l ≡ true → is_chain n overlaps (reverse l) ≡ true
  unfolding first_entry
  chain_reverse [] c = c
  chain_reverse (x ∷ []) c = c
  chain_reverse (x ∷ (y ∷ l)) c =
      let t = ap (λ (z : ℕ). overlaps z x) (last_reverse (y ∷ l)) ∙ (symmetric y x ∙ chain_overlap n overlaps x y l c) in
      ap (is_chain n overlaps) (reverse-cons x (y ∷ l))
      ∙ chain_snoc n overlaps (reverse (y ∷ l)) x (chain_reverse (y ∷ l) (chain_tail n overlaps x y l c)) t (chain_head n overlaps x (y ∷ l) c)

  -- A chain from a to b, read backwards, leads from b to a.
  pub leads_reverse : (a b : ℕ) (l : List ℕ) → leads n overlaps a b l ≡ true → leads n overlaps b a (reverse l) ≡ true
  leads_reverse a b l t =
      leads_intro n overlaps b a (reverse l) (chain_reverse l (leads_chain n overlaps a b l t))
      (first_reverse l ∙ leads_last n overlaps a b l t) (last_reverse l ∙ leads_first n overlaps a b l t)

  -- Read from the later window, a chain that joins two leads from the later to the earlier.
  pub later_leads : (a b : ℕ) (l : List ℕ) → joins n overlaps a b l ≡ true → leads n overlaps (max a b) (min a b) (from_later a b l) ≡ true
  unfolding from_later
  later_leads a b l t =
      ⊎_elim (λ s. turned a b s (λ e. omega arith) (λ e. omega arith) (λ e. omega arith))
      (λ s. turned b a s (λ e. omega arith) (λ e. omega arith) (λ e. omega arith)) (joins_cases n overlaps a b l t)
    where
      turned : (x y : ℕ) → leads n overlaps x y l ≡ true → (x ≡ max a b → y ≡ min a b) → ((x ≡ max a b → ⊥) → y ≡ max a b) →
          ((x ≡ max a b → ⊥) → x ≡ min a b) → leads n overlaps (max a b) (min a b) (cond (eqb (first_entry l) (max a b)) l (reverse l)) ≡ true
      turned x y s f g h =
          let first : first_entry l ≡ x = leads_first n overlaps x y l s in
          cond_cases (λ m. leads n overlaps (max a b) (min a b) m ≡ true) (eqb (first_entry l) (max a b))
          (λ q. let e : x ≡ max a b = sym first ∙ eqb-true (first_entry l) (max a b) q in rw (← e, ← f e) s)
          (λ q. let e : x ≡ max a b → ⊥ = λ e. eqb-false (first_entry l) (max a b) q (first ∙ e) in
          rw (← g e, ← h e) (leads_reverse x y l s))

-- To read it from the later window alters no number of handovers.
pub handovers_later : (a b : ℕ) (l : List ℕ) → handovers (from_later a b l) ≡ handovers l
unfolding from_later
handovers_later a b l = cond_cases (λ m. handovers m ≡ handovers l) (eqb (first_entry l) (max a b)) (λ t. refl) (λ t. handovers_reverse l)
