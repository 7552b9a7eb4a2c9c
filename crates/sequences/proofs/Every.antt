-- Laws of `every`: that all numbers below a bound pass a test.
-- Assumes nothing.
use Prim.Native.Nat.{ℕ, zero, suc, ◌<◌}
use mathlib.Core.{Bool.Bool, Bool.true, Bool.false, Path.◌≡◌, Path.refl, Path.sym, Path.◌∙◌, Logic.⊎_elim}
use native.Mathlib.Omega.{arith}
use Rattle.sequences.specs.Search.{every}
use Rattle.sequences.proofs.Tests.{truth, true_false_absurd, lt_or_ge, and_left, and_right, and_intro, iff_equal}

-- What holds of every number below n.
module _ (p : ℕ → Bool) where
  pub every_at : (n k : ℕ) → every p n ≡ true → k < n → p k ≡ true
  unfolding every
  every_at zero k t h = absurd (omega arith)
  every_at (suc n) k t h =
      ⊎_elim (λ g. every_at n k (and_left (every p n) (p n) t) g)
      (λ g. let e : k ≡ n = omega arith in rw e (and_right (every p n) (p n) t)) (lt_or_ge k n)

  pub every_intro : (n : ℕ) → ((k : ℕ) → k < n → p k ≡ true) → every p n ≡ true
  unfolding every
  every_intro zero h = refl
  every_intro (suc n) h = and_intro (every p n) (p n) (every_intro n (λ k g. h k (omega arith))) (h n (omega arith))

  -- One that fails is enough.
  pub every_fails : (n k : ℕ) → k < n → p k ≡ false → every p n ≡ false
  every_fails n k h f = ⊎_elim (λ t. absurd (true_false_absurd (p k) (every_at n k t h) f)) (λ t. t) (truth (every p n))

pub every_cong : (p q : ℕ → Bool) (n : ℕ) → ((k : ℕ) → k < n → p k ≡ q k) → every p n ≡ every q n
every_cong p q n e =
    iff_equal (every p n) (every q n) (λ t. every_intro q n (λ k h. sym (e k h) ∙ every_at p n k t h))
    (λ t. every_intro p n (λ k h. e k h ∙ every_at q n k t h))
