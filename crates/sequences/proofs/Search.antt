-- Laws of the bounded searches `least`, `greatest` and `count`.
-- Assumes nothing.
use Prim.Native.Nat.{ℕ, zero, suc, ◌+◌, ◌-◌, ◌≤◌, ◌<◌}
use mathlib.Core.{Bool.Bool, Bool.true, Bool.false, Path.◌≡◌, Path.refl, Path.sym, Path.ap, Path.◌∙◌}
use mathlib.Core.Logic.{◌⊎◌, inl, inr, ⊎_elim}
use native.Mathlib.{Omega.arith, Nat.le_antisymm}
use Rattle.sequences.specs.Search.{least, greatest, count}
use Rattle.sequences.proofs.Tests.{cond_cases, truth, true_false_absurd, lt_or_ge}

-- least

pub least_le : (p : ℕ → Bool) (n : ℕ) → least p n ≤ n
unfolding least
least_le p zero = omega arith
least_le p (suc n) = cond_cases (λ k. k ≤ suc n) (p (least p n)) (λ t. omega (arith, least_le p n)) (λ t. omega arith)

-- Below the bound it passes.
pub least_holds : (p : ℕ → Bool) (n : ℕ) → least p n < n → p (least p n) ≡ true
unfolding least
least_holds p zero h = absurd (omega arith)
least_holds p (suc n) h = cond_cases (λ k. k < suc n → p k ≡ true) (p (least p n)) (λ t g. t) (λ t g. absurd (omega arith)) h

-- Where it does not pass, it is the bound.
pub least_fails : (p : ℕ → Bool) (n : ℕ) → p (least p n) ≡ false → least p n ≡ n
least_fails p n f =
    ⊎_elim (λ h. absurd (true_false_absurd _ (least_holds p n h) f)) (λ h. le_antisymm (least_le p n) h) (lt_or_ge (least p n) n)

-- Nothing before it passes.
pub least_before : (p : ℕ → Bool) (n k : ℕ) → k < least p n → p k ≡ false
unfolding least
least_before p zero k h = absurd (omega arith)
least_before p (suc n) k h =
    cond_cases (λ m. k < m → p k ≡ false) (p (least p n)) (λ t g. least_before p n k g) (λ t g. ⊎_elim (λ g'. least_before p n k g')
    (λ g'. let e : k ≡ least p n = omega (arith, least_fails p n t) in rw e t) (lt_or_ge k (least p n))) h

-- It is at most any number that passes.
pub least_minimal : (p : ℕ → Bool) (n k : ℕ) → p k ≡ true → least p n ≤ k
least_minimal p n k t = ⊎_elim (λ h. absurd (true_false_absurd _ t (least_before p n k h))) (λ h. h) (lt_or_ge k (least p n))

-- A number up to the bound that passes, unless it is the bound, and before which nothing does, is it.
pub least_unique : (p : ℕ → Bool) (n k : ℕ) → k ≤ n → (k < n → p k ≡ true) → ((j : ℕ) → j < k → p j ≡ false) → least p n ≡ k
least_unique p n k le holds before =
    ⊎_elim (λ h. absurd (true_false_absurd _ (least_holds p n (omega arith)) (before (least p n) h)))
    (λ h. ⊎_elim (λ g. absurd (true_false_absurd _ (holds (omega (arith, least_le p n))) (least_before p n k g)))
    (λ g. le_antisymm g h) (lt_or_ge k (least p n))) (lt_or_ge (least p n) k)

-- It depends on the test below the bound only.
pub least_cong : (p q : ℕ → Bool) (n : ℕ) → ((k : ℕ) → k < n → p k ≡ q k) → least p n ≡ least q n
least_cong p q n e =
    least_unique p n (least q n) (least_le q n) (λ h. e _ h ∙ least_holds q n h)
    (λ j h. e j (omega (arith, least_le q n)) ∙ least_before q n j h)

-- greatest

-- It is at least any number below n that passes.
pub greatest_ge : (p : ℕ → Bool) (n d k : ℕ) → k < n → p k ≡ true → k ≤ greatest p n d
unfolding greatest
greatest_ge p zero d k h t = absurd (omega arith)
greatest_ge p (suc n) d k h t =
    cond_cases (λ m. k ≤ m) (p n) (λ s. omega arith) (λ s. ⊎_elim (λ g. greatest_ge p n d k g t)
    (λ g. let e : k ≡ n = omega arith in absurd (true_false_absurd _ (rw e at t) s)) (lt_or_ge k n))

-- It passes and is below n, or it is d and nothing below n passes.
pub greatest_cases : (p : ℕ → Bool) (n d : ℕ) → ((greatest p n d < n) × (p (greatest p n d) ≡ true)) ⊎ ((greatest p n d ≡ d) × ((k : ℕ) → k < n → p k ≡ false))
unfolding greatest
greatest_cases p zero d = inr (refl, λ k h. absurd (omega arith))
greatest_cases p (suc n) d =
    cond_cases (λ m. ((m < suc n) × (p m ≡ true)) ⊎ ((m ≡ d) × ((k : ℕ) → k < suc n → p k ≡ false))) (p n) (λ t. inl (omega arith, t))
    (λ t. ⊎_elim (λ h. inl (omega (arith, h.0), h.1))
    (λ h. inr (h.0, λ k g. ⊎_elim (h.1 k) (λ g'. let e : k ≡ n = omega arith in rw e t) (lt_or_ge k n))) (greatest_cases p n d))

-- It depends on the test below the bound only.
pub greatest_cong : (p q : ℕ → Bool) (n d : ℕ) → ((k : ℕ) → k < n → p k ≡ q k) → greatest p n d ≡ greatest q n d
unfolding greatest
greatest_cong p q zero d e = refl
greatest_cong p q (suc n) d e =
    let below : greatest p n d ≡ greatest q n d = greatest_cong p q n d (λ k h. e k (omega arith)) in
    let here : p n ≡ q n = e n (omega arith) in rw (below, here)

-- Where nothing from a on passes, the numbers before a decide.
pub greatest_none : (p : ℕ → Bool) (a k d : ℕ) → ((i : ℕ) → a ≤ i → i < a + k → p i ≡ false) → greatest p (a + k) d ≡ greatest p a d
unfolding greatest
greatest_none p a zero d h = let e : a + zero ≡ a = omega arith in ap (λ n. greatest p n d) e
greatest_none p a (suc k) d h =
    let e : a + suc k ≡ suc (a + k) = omega arith in
    rw (e, h (a + k) (omega arith) (omega arith)) (greatest_none p a k d (λ i l r. h i l (omega arith)))

-- count

pub count_true : (p : ℕ → Bool) (n : ℕ) → p n ≡ true → count p (suc n) ≡ suc (count p n)
unfolding count
count_true p n t = rw t

pub count_false : (p : ℕ → Bool) (n : ℕ) → p n ≡ false → count p (suc n) ≡ count p n
unfolding count
count_false p n t = rw t

pub count_le : (p : ℕ → Bool) (n : ℕ) → count p n ≤ n
unfolding count
count_le p zero = omega arith
count_le p (suc n) = cond_cases (λ k. k ≤ suc n) (p n) (λ t. omega (arith, count_le p n)) (λ t. omega (arith, count_le p n))

-- One more number adds at most one.
pub count_step : (p : ℕ → Bool) (n : ℕ) → (count p n ≤ count p (suc n)) × (count p (suc n) ≤ suc (count p n))
unfolding count
count_step p n = cond_cases (λ k. (count p n ≤ k) × (k ≤ suc (count p n))) (p n) (λ t. omega arith) (λ t. omega arith)

pub count_monotone : (p : ℕ → Bool) (m k : ℕ) → count p m ≤ count p (m + k)
count_monotone p m zero = let e : m + zero ≡ m = omega arith in rw e (omega arith)
count_monotone p m (suc k) =
    let e : m + suc k ≡ suc (m + k) = omega arith in rw e (omega (arith, count_monotone p m k, (count_step p (m + k)).0))

pub count_cong : (p q : ℕ → Bool) (n : ℕ) → ((k : ℕ) → k < n → p k ≡ q k) → count p n ≡ count q n
unfolding count
count_cong p q zero e = refl
count_cong p q (suc n) e =
    let below : count p n ≡ count q n = count_cong p q n (λ k h. e k (omega arith)) in
    let here : p n ≡ q n = e n (omega arith) in rw (below, here)

-- One number more that passes adds one.
pub count_insert : (p q : ℕ → Bool) (z n : ℕ) → z < n → p z ≡ false → q z ≡ true → ((k : ℕ) → (k ≡ z → ⊥) → p k ≡ q k) → count q n ≡ suc (count p n)
count_insert p q z zero h f t e = absurd (omega arith)
count_insert p q z (suc n) h f t e =
    ⊎_elim (λ g. let rest : count q n ≡ suc (count p n) = count_insert p q z n g f t e in let same : p n ≡ q n = e n (λ d. omega arith) in
    ⊎_elim (λ s. omega (arith, count_true p n s, count_true q n (sym same ∙ s)))
    (λ s. omega (arith, count_false p n s, count_false q n (sym same ∙ s))) (truth (p n))) (λ g. let d : z ≡ n = omega arith in
    omega (arith, count_false p n (rw d at f), count_true q n (rw d at t), count_cong p q n (λ k l. e k (λ s. omega arith)))) (lt_or_ge z n)

-- Where nothing from a on passes, the count from a on stands still.
pub count_none : (p : ℕ → Bool) (a k : ℕ) → ((i : ℕ) → a ≤ i → i < a + k → p i ≡ false) → count p (a + k) ≡ count p a
count_none p a zero h = let e : a + zero ≡ a = omega arith in ap (count p) e
count_none p a (suc k) h =
    let e : a + suc k ≡ suc (a + k) = omega arith in
    rw e (count_false p (a + k) (h (a + k) (omega arith) (omega arith)) ∙ count_none p a k (λ i l r. h i l (omega arith)))

-- Where everything from a on passes, it grows by one each time.
pub count_every : (p : ℕ → Bool) (a k : ℕ) → ((i : ℕ) → a ≤ i → i < a + k → p i ≡ true) → count p (a + k) ≡ count p a + k
count_every p a zero h = let e : a + zero ≡ a = omega arith in rw e (omega arith)
count_every p a (suc k) h =
    let e : a + suc k ≡ suc (a + k) = omega arith in
    rw e (omega (arith, count_true p (a + k) (h (a + k) (omega arith) (omega arith)), count_every p a k (λ i l r. h i l (omega arith))))

-- A test that passes from a up to, not including, b counts b - a numbers, wherever the count stops past b.
pub count_range : (p : ℕ → Bool) (a b n : ℕ) → ((k : ℕ) → k < a → p k ≡ false) → ((k : ℕ) → a ≤ k → k < b → p k ≡ true) →
    ((k : ℕ) → b ≤ k → p k ≡ false) → b ≤ n → count p n ≡ b - a
unfolding count
count_range p a b n before within after le =
    let start : count p (0 + a) ≡ 0 = count_none p 0 a (λ i l r. before i (omega arith)) in
    ⊎_elim (λ h. let e : n ≡ 0 + a + (b - a) + (n - b) = omega arith in
    let middle : count p (0 + a + (b - a)) ≡ count p (0 + a) + (b - a) = count_every p (0 + a) (b - a) (λ i l r. within i (omega arith) (omega arith)) in
    let rest : count p (0 + a + (b - a) + (n - b)) ≡ count p (0 + a + (b - a)) = count_none p (0 + a + (b - a)) (n - b) (λ i l r. after i (omega arith)) in
    omega (arith, ap (count p) e)) (λ h. let e : n ≡ 0 + n = omega arith in
    let none : count p (0 + n) ≡ 0 = count_none p 0 n (λ i l r. ⊎_elim (λ g. before i g) (λ g. after i (omega arith)) (lt_or_ge i a)) in
    omega (arith, ap (count p) e)) (lt_or_ge a b)

-- Of a test that passes every number before one that passes, the count is where the passing ends.
module _ (p : ℕ → Bool) (n : ℕ) (front : (i j : ℕ) → i ≤ j → j < n → p j ≡ true → p i ≡ true) where
  pub count_within : (k : ℕ) → k < n → p k ≡ true → k < count p n
  unfolding count
  count_within k h t =
      let e : n ≡ 0 + suc k + (n - suc k) = omega arith in
      let all : count p (0 + suc k) ≡ count p 0 + suc k = count_every p 0 (suc k) (λ i l r. front i k (omega arith) h t) in
      omega (arith, ap (count p) e, count_monotone p (0 + suc k) (n - suc k))

  pub count_behind : (k : ℕ) → k < n → p k ≡ false → count p n ≤ k
  count_behind k h f =
      let e : n ≡ k + (n - k) = omega arith in
      let none : count p (k + (n - k)) ≡ count p k = count_none p k (n - k) (λ i l r.
      ⊎_elim (λ t. absurd (true_false_absurd _ (front k i l (omega arith) t) f)) (λ t. t) (truth (p i))) in
      omega (arith, ap (count p) e, count_le p k)
