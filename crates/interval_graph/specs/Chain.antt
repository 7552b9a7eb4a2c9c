-- Paper 01, "Tree", the paragraph on chains. All of it is over any overlap test, symmetric or not.
-- Vocabulary: first_entry, last_entry, handovers, is_chain, leads, joins, Joined, LeastHandovers, Shortest,
-- from_later, EarliestShortest.
use Rattle.std.specs.Prelude.{ℕ, ◌-◌, ◌≤◌, max, Bool, true, false, cond, ◌&&◌, ◌||◌, ◌≡◌, List, [], ◌∷◌, reverse, length, get_or, ltb, eqb}

unfoldable pub first_entry : List ℕ → ℕ
first_entry [] = 0
first_entry (x ∷ l) = x

unfoldable pub last_entry : List ℕ → ℕ
last_entry [] = 0
last_entry (x ∷ []) = x
last_entry (x ∷ (y ∷ l)) = last_entry (y ∷ l)

-- "Its handovers are its length less one. A window alone is a chain of 0."
unfoldable pub handovers : List ℕ → ℕ
handovers l = length l - 1

module _ (n : ℕ) (overlaps : ℕ → ℕ → Bool) where
  -- "A chain is a list of positions of which each overlaps the next." It is not empty, and its positions are
  -- those of windows, below n.
  unfoldable pub is_chain : List ℕ → Bool
  is_chain [] = false
  is_chain (x ∷ []) = ltb x n
  is_chain (x ∷ (y ∷ l)) = ltb x n && (overlaps x y && is_chain (y ∷ l))

  -- A chain whose first entry is a and whose last is b.
  unfoldable pub leads : ℕ → ℕ → List ℕ → Bool
  leads a b l = is_chain l && (eqb (first_entry l) a && eqb (last_entry l) b)

  -- "A chain joins two windows when its first entry is one of them and its last the other; for one window named
  -- twice, both are that window."
  unfoldable pub joins : ℕ → ℕ → List ℕ → Bool
  joins a b l = leads a b l || leads b a l

  -- Some chain joins a and b.
  abbrev pub Joined : ℕ → ℕ → Type 0
  Joined a b = (l : List ℕ) × (joins a b l ≡ true)

  -- The least number of handovers between a and b is k: some chain has it, none has fewer.
  pub record LeastHandovers (a b k : ℕ) : Type 0 where
    pub attained : (l : List ℕ) × (joins a b l ≡ true) × (handovers l ≡ k)
    pub none_fewer : (l : List ℕ) → joins a b l ≡ true → k ≤ handovers l

  -- "A shortest chain between two windows is one that joins them and has no more handovers than any other that
  -- does."
  pub record Shortest (a b : ℕ) (l : List ℕ) : Type 0 where
    pub joining : joins a b l ≡ true
    pub none_shorter : (m : List ℕ) → joins a b m ≡ true → handovers l ≤ handovers m

-- "Later means the greater position … For demand 3 a chain is read from the later window, which stands at step 0;
-- the next entry stands at step 1, and so on."
unfoldable pub from_later : ℕ → ℕ → List ℕ → List ℕ
from_later a b l = cond (eqb (first_entry l) (max a b)) l (reverse l)

module _ (n : ℕ) (overlaps : ℕ → ℕ → Bool) where
  -- A shortest chain that has, at each step from the later window, "the earliest window that any shortest chain has
  -- there"; "earliest" means the smallest position.
  pub record EarliestShortest (a b : ℕ) (l : List ℕ) : Type 0 where
    pub shortest : Shortest n overlaps a b l
    pub earliest : (m : List ℕ) → Shortest n overlaps a b m → (i : ℕ) → i ≤ handovers l →
        get_or (from_later a b l) i 0 ≤ get_or (from_later a b m) i 0
