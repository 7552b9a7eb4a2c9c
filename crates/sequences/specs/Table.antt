-- Tables: what a call writes into a lent slice.
-- Vocabulary: table, overwritten, Holds.
use Rattle.std.specs.Prelude.{ℕ, zero, suc, ◌≤◌, ◌<◌, ◌≡◌, List, [], ◌∷◌, ◌++◌, length, get_or, drop}

-- f 0, f 1, …, f (n - 1).
unfoldable pub table : {A : Type 0} → (ℕ → A) → ℕ → List A
table f zero = []
table f (suc n) = table f n ++ (f n ∷ [])

-- The list l with its first entries replaced by those of the list new; what lies past them stays.
unfoldable pub overwritten : {A : Type 0} → List A → List A → List A
overwritten l new = new ++ drop (length new) l

-- The first n entries of the list l are f 0, f 1, …, f (n - 1), whatever lies past them.
pub record Holds (l : List ℕ) (f : ℕ → ℕ) (n : ℕ) : Type 0 where
  pub long : n ≤ length l
  pub at : (k : ℕ) → k < n → get_or l k 0 ≡ f k
