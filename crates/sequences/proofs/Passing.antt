-- Laws of `passing`: the numbers of a range that pass a test, as a rising list.
-- Assumes nothing.
use Prim.Native.Nat.{ℕ, zero, suc, ◌+◌, ◌≤◌, ◌<◌}
use mathlib.Core.{Bool.Bool, Bool.true, Bool.false, Path.◌≡◌, Path.refl, Path.ap, Path.◌∙◌, Logic.⊎_elim}
use mathlib.Core.List.Memᴰ
use mathlib.Core.List.{List, [], ◌∷◌, ◌++◌, Memᴰ}
use native.Mathlib.Omega.{arith}
use lib.ListN.{length}
use Rattle.sequences.specs.{Search.count, Search.passing, Table.table}
use Rattle.sequences.proofs.Search.{count_true, count_false}
use Rattle.sequences.proofs.Tests.{cond_cases, truth, lt_or_ge, true_false_absurd}

-- One number more, at the front.
pub passing_true : (p : ℕ → Bool) (a k : ℕ) → p a ≡ true → passing p a (suc k) ≡ a ∷ passing p (suc a) k
unfolding passing
passing_true p a k t = rw t

pub passing_false : (p : ℕ → Bool) (a k : ℕ) → p a ≡ false → passing p a (suc k) ≡ passing p (suc a) k
unfolding passing
passing_false p a k t = rw t

-- A range is split by addition.
pub passing_add : (p : ℕ → Bool) (a i j : ℕ) → passing p a (i + j) ≡ passing p a i ++ passing p (a + i) j
unfolding passing
passing_add p a zero j = let e : zero + j ≡ j = omega arith in let f : a + zero ≡ a = omega arith in rw (e, f)
passing_add p a (suc i) j =
    let e : suc i + j ≡ suc (i + j) = omega arith in let f : a + suc i ≡ suc a + i = omega arith in
    rw (e, f) (⊎_elim (λ t. rw t (ap (λ (l : List ℕ). a ∷ l) (passing_add p (suc a) i j))) (λ t. rw t (passing_add p (suc a) i j))
    (truth (p a)))

-- What is in the list is in the range and passes.
pub passing_sound : (p : ℕ → Bool) (a m k : ℕ) → Memᴰ k (passing p a m) → (a ≤ k) × (k < a + m) × (p k ≡ true)
unfolding passing
passing_sound p a zero k h = absurd (Memᴰ.not-nil h)
passing_sound p a (suc m) k h =
    cond_cases (λ l. Memᴰ k l → (a ≤ k) × (k < a + suc m) × (p k ≡ true)) (p a)
    (λ t g. ⊎_elim (λ e. (omega arith, omega arith, rw e t)) (λ g'. wider p a m k (passing_sound p (suc a) m k g')) (Memᴰ.cases_cons g))
    (λ t g. wider p a m k (passing_sound p (suc a) m k g)) h
  where
    wider : (p : ℕ → Bool) (a m k : ℕ) → (suc a ≤ k) × (k < suc a + m) × (p k ≡ true) → (a ≤ k) × (k < a + suc m) × (p k ≡ true)
    wider p a m k h = (omega arith, omega arith, h.2)

-- What is in the range and passes is in the list.
pub passing_complete : (p : ℕ → Bool) (a m k : ℕ) → a ≤ k → k < a + m → p k ≡ true → Memᴰ k (passing p a m)
unfolding passing
passing_complete p a zero k l r t = absurd (omega arith)
passing_complete p a (suc m) k l r t =
    ⊎_elim (λ h. cond_cases (Memᴰ k) (p a) (λ s. Memᴰ.tail (passing_complete p (suc a) m k h (omega arith) t))
    (λ s. passing_complete p (suc a) m k h (omega arith) t)) (λ h. let e : k ≡ a = omega arith in
    cond_cases (Memᴰ k) (p a) (λ s. Memᴰ.head e) (λ s. absurd (true_false_absurd (p a) (rw e at t) s))) (lt_or_ge a k)

-- The list is as long as the count over its range.
pub length_passing : (p : ℕ → Bool) (a k : ℕ) → count p a + length (passing p a k) ≡ count p (a + k)
unfolding passing
length_passing p a zero = let e : a + zero ≡ a = omega arith in rw e (omega arith)
length_passing p a (suc k) =
    let e : a + suc k ≡ suc a + k = omega arith in rw e (⊎_elim (λ t. rw t (omega (arith, length_passing p (suc a) k, count_true p a t)))
    (λ t. rw t (omega (arith, length_passing p (suc a) k, count_false p a t))) (truth (p a)))

-- The list depends on the test in the range only.
pub passing_cong : (p q : ℕ → Bool) (a m : ℕ) → ((k : ℕ) → a ≤ k → k < a + m → p k ≡ q k) → passing p a m ≡ passing q a m
unfolding passing
passing_cong p q a zero e = refl
passing_cong p q a (suc m) e =
    let above : passing p (suc a) m ≡ passing q (suc a) m = passing_cong p q (suc a) m (λ k l r. e k (omega arith) (omega arith)) in
    let here : p a ≡ q a = e a (omega arith) (omega arith) in rw (above, here)

-- Where nothing in the range passes, the list is empty.
pub passing_none : (p : ℕ → Bool) (a m : ℕ) → ((k : ℕ) → a ≤ k → k < a + m → p k ≡ false) → passing p a m ≡ []
unfolding passing
passing_none p a zero none = refl
passing_none p a (suc m) none =
    rw (none a (omega arith) (omega arith)) (passing_none p (suc a) m (λ k l r. none k (omega arith) (omega arith)))

-- Where everything in the range passes, the list has all of it.
pub passing_every : (p : ℕ → Bool) (a m : ℕ) → ((k : ℕ) → a ≤ k → k < a + m → p k ≡ true) → passing p a m ≡ table (λ i. a + i) m
unfolding passing table
passing_every p a zero all = refl
passing_every p a (suc m) all =
    let e : suc m ≡ m + 1 = omega arith in
    rw (← passing_every p a m (λ k l r. all k l (omega arith)))
    (ap (passing p a) e ∙ passing_add p a m 1
    ∙ ap (λ (l : List ℕ). passing p a m ++ l) (passing_true p (a + m) 0 (all (a + m) (omega arith) (omega arith))))
