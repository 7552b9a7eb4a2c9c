-- Lists of numbers.
-- Vocabulary: index_of, total.
use Rattle.std.specs.Prelude.{ℕ, zero, suc, ◌+◌, cond, List, [], ◌∷◌, eqb}

-- The index of the first x in a list, or the list's length where there is none.
unfoldable pub index_of : ℕ → List ℕ → ℕ
index_of x [] = zero
index_of x (y ∷ l) = let later = index_of x l in cond (eqb x y) zero (suc later)

-- The sum of f over a list.
unfoldable pub total : (ℕ → ℕ) → List ℕ → ℕ
total f [] = zero
total f (x ∷ l) = f x + total f l
