-- Laws of `index_of` and `total`.
-- Assumes nothing.
use Prim.Native.Nat.{ℕ, zero, suc, ◌+◌, ◌≤◌, ◌<◌}
use mathlib.Core.{Bool.true, Bool.false, Path.◌≡◌, Path.refl, Path.sym, Path.ap, Logic.⊎_elim}
use mathlib.Core.List.Memᴰ
use mathlib.Core.List.{List, [], ◌∷◌, ◌++◌, Memᴰ}
use native.Mathlib.Omega.{arith}
use lib.{ListN.length, ListN.get_or, Dec.eqb}
use borrow.Author.Tests.{eqb-true, eqb-false, eq-eqb, ne_eqb}
use Rattle.sequences.specs.Lists.{index_of, total}
use Rattle.sequences.proofs.Tests.{cond_cases, truth, lt_or_ge}

-- index_of

pub index_le : (x : ℕ) (l : List ℕ) → index_of x l ≤ length l
unfolding index_of
index_le x [] = omega arith
index_le x (y ∷ l) = cond_cases (λ k. k ≤ length (y ∷ l)) (eqb x y) (λ t. omega arith) (λ t. omega (arith, index_le x l))

-- The first entry has index 0, and what differs from it is looked for in the rest.
pub index_here : (x y : ℕ) (l : List ℕ) → x ≡ y → index_of x (y ∷ l) ≡ 0
unfolding index_of
index_here x y l e = let t : eqb x y ≡ true = eq-eqb x y e in rw t

pub index_there : (x y : ℕ) (l : List ℕ) → (x ≡ y → ⊥) → index_of x (y ∷ l) ≡ suc (index_of x l)
unfolding index_of
index_there x y l d = let t : eqb x y ≡ false = ne_eqb x y d in rw t

-- An element's index is below the length, and there it stands.
pub index_below : (x : ℕ) (l : List ℕ) → Memᴰ x l → index_of x l < length l
unfolding index_of
index_below x [] h = absurd (Memᴰ.not-nil h)
index_below x (y ∷ l) h =
    cond_cases (λ k. k < length (y ∷ l)) (eqb x y) (λ t. omega arith)
    (λ t. ⊎_elim (λ e. absurd (eqb-false x y t e)) (λ g. omega (arith, index_below x l g)) (Memᴰ.cases_cons h))

pub index_at : (x : ℕ) (l : List ℕ) → index_of x l < length l → get_or l (index_of x l) 0 ≡ x
unfolding index_of
index_at x [] h = absurd (omega arith)
index_at x (y ∷ l) h =
    cond_cases (λ k. k < length (y ∷ l) → get_or (y ∷ l) k 0 ≡ x) (eqb x y) (λ t g. sym (eqb-true x y t))
    (λ t g. index_at x l (omega arith)) h

-- What has an index below the length is an element, and what is none has the length for its index.
pub index_member : (x : ℕ) (l : List ℕ) → index_of x l < length l → Memᴰ x l
unfolding index_of
index_member x [] h = absurd (omega arith)
index_member x (y ∷ l) h =
    ⊎_elim (λ t. Memᴰ.head (eqb-true x y t)) (λ t. Memᴰ.tail (index_member x l (omega (arith, rw t at h)))) (truth (eqb x y))

pub index_absent : (x : ℕ) (l : List ℕ) → (Memᴰ x l → ⊥) → index_of x l ≡ length l
index_absent x l h = ⊎_elim (λ g. absurd (h (index_member x l g))) (λ g. omega (arith, index_le x l)) (lt_or_ge (index_of x l) (length l))

-- The entries are elements.
pub get_or_member : (l : List ℕ) (i : ℕ) → i < length l → Memᴰ (get_or l i 0) l
get_or_member [] i h = absurd (omega arith)
get_or_member (x ∷ l) zero h = Memᴰ.head refl
get_or_member (x ∷ l) (suc i) h = Memᴰ.tail (get_or_member l i (omega arith))

-- What is not in the first list is looked for in the second.
pub index_append_left : (x : ℕ) (l m : List ℕ) → index_of x l < length l → index_of x (l ++ m) ≡ index_of x l
unfolding index_of
index_append_left x [] m h = absurd (omega arith)
index_append_left x (y ∷ l) m h =
    ⊎_elim (λ t. rw t) (λ t. rw t (ap suc (index_append_left x l m (omega (arith, rw t at h))))) (truth (eqb x y))

pub index_append_right : (x : ℕ) (l m : List ℕ) → index_of x l ≡ length l → index_of x (l ++ m) ≡ length l + index_of x m
unfolding index_of
index_append_right x [] m h = omega arith
index_append_right x (y ∷ l) m h =
    ⊎_elim (λ t. absurd (omega (arith, rw t at h)))
    (λ t. rw t (omega (arith, index_append_right x l m (omega (arith, rw t at h))))) (truth (eqb x y))

-- total

pub total_append : (f : ℕ → ℕ) (l m : List ℕ) → total f (l ++ m) ≡ total f l + total f m
unfolding total
total_append f [] m = omega arith
total_append f (x ∷ l) m = omega (arith, total_append f l m)

pub total_cong : (f g : ℕ → ℕ) (l : List ℕ) → ((x : ℕ) → Memᴰ x l → f x ≡ g x) → total f l ≡ total g l
unfolding total
total_cong f g [] e = refl
total_cong f g (x ∷ l) e = omega (arith, e x (Memᴰ.head refl), total_cong f g l (λ y h. e y (Memᴰ.tail h)))
