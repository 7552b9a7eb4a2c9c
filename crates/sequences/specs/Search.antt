-- Bounded searches over the natural numbers, by a test.
-- Vocabulary: least, greatest, count, passing, every.
use Rattle.std.specs.Prelude.{ℕ, zero, suc, Bool, true, cond, ◌&&◌, List, [], ◌∷◌}

-- The least number below n that passes the test p, or n where none does.
-- (k is that of the numbers below n. Where it is n itself, none below n passes, and n is asked.)
unfoldable pub least : (ℕ → Bool) → ℕ → ℕ
least p zero = zero
least p (suc n) = let k = least p n in cond (p k) k (suc n)

-- The greatest number below n that passes the test p, or d where none does.
unfoldable pub greatest : (ℕ → Bool) → ℕ → ℕ → ℕ
greatest p zero d = d
greatest p (suc n) d = let below = greatest p n d in cond (p n) n below

-- How many numbers below n pass the test p.
unfoldable pub count : (ℕ → Bool) → ℕ → ℕ
count p zero = zero
count p (suc n) = let below = count p n in cond (p n) (suc below) below

-- Those of the k numbers from a on that pass the test p, rising.
unfoldable pub passing : (ℕ → Bool) → ℕ → ℕ → List ℕ
passing p a zero = []
passing p a (suc k) = let above = passing p (suc a) k in cond (p a) (a ∷ above) above

-- Every number below n passes the test p.
unfoldable pub every : (ℕ → Bool) → ℕ → Bool
every p zero = true
every p (suc n) = every p n && p n
