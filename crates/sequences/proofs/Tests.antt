-- Tests and cases: what every proof above splits on.
-- Vocabulary: cond_cases, lt_or_ge, equal_or_not, truth (is a test true or false), byte_most, and_*, or_*.
-- Assumes nothing.
use Prim.Native.Nat.{ℕ, ◌≤◌, ◌<◌}
use mathlib.Core.Bool.{Bool, true, false, cond, ◌&&◌, ◌||◌, true≢false}
use mathlib.Core.{Path.◌≡◌, Path.refl, Path.sym, Path.◌∙◌, Logic.◌⊎◌, Logic.inl, Logic.inr, Logic.⊎_elim}
use native.Mathlib.Omega.{arith}
use lib.Dec.{ltb, eqb}
use mir.Val.{bool_byte}
use borrow.Author.Tests.{ltb-true, ltb-false, leb-true, leb-false, eqb-true, eqb-false, lt-ltb, le-ltb, le-leb, lt-leb, eq-eqb, ne_eqb}

-- from a test to the fact, for `omega (arith, tests)`
pub ruleset tests = (ltb-true, ltb-false, leb-true, leb-false, eqb-true, eqb-false)

-- from the fact to the test, for `search answers` at a return
pub ruleset answers = (lt-ltb, le-ltb, le-leb, lt-leb, eq-eqb, ne_eqb)

-- A test is true or false.
pub truth : (t : Bool) → (t ≡ true) ⊎ (t ≡ false)
truth true = inl refl
truth false = inr refl

-- As a number, which a sum of tests adds up, it is at most 1.
pub byte_most : (t : Bool) → bool_byte t ≤ 1
byte_most true = omega arith
byte_most false = omega arith

pub true_false_absurd : (t : Bool) → t ≡ true → t ≡ false → ⊥
true_false_absurd t p q = true≢false (sym p ∙ q)

-- What holds of both answers holds of the choice between them.
pub cond_cases {ℓ} : {A : Type 0} (P : A → Type ℓ) (t : Bool) {a b : A} → (t ≡ true → P a) → (t ≡ false → P b) → P (cond t a b)
cond_cases P true f g = f refl
cond_cases P false f g = g refl

pub lt_or_ge : (a b : ℕ) → (a < b) ⊎ (b ≤ a)
lt_or_ge a b = ⊎_elim (λ t. inl (ltb-true a b t)) (λ t. inr (ltb-false a b t)) (truth (ltb a b))

-- Two numbers are equal or not.
pub equal_or_not : (a b : ℕ) → (a ≡ b) ⊎ (a ≡ b → ⊥)
equal_or_not a b = ⊎_elim (λ t. inl (eqb-true a b t)) (λ t. inr (eqb-false a b t)) (truth (eqb a b))

pub and_left : (s t : Bool) → (s && t) ≡ true → s ≡ true
and_left true t p = refl
and_left false t p = p

pub and_right : (s t : Bool) → (s && t) ≡ true → t ≡ true
and_right true t p = p
and_right false t p = absurd (true≢false (sym p))

pub and_intro : (s t : Bool) → s ≡ true → t ≡ true → (s && t) ≡ true
and_intro true t p q = q
and_intro false t p q = p

pub or_cases : (s t : Bool) → (s || t) ≡ true → (s ≡ true) ⊎ (t ≡ true)
or_cases true t p = inl refl
or_cases false t p = inr p

pub or_left : (s t : Bool) → s ≡ true → (s || t) ≡ true
or_left true t p = refl
or_left false t p = absurd (true≢false (sym p))

pub or_right : (s t : Bool) → t ≡ true → (s || t) ≡ true
or_right true t p = refl
or_right false t p = p

-- A test beside one that is known.
pub and_true_right : (s t : Bool) → t ≡ true → (s && t) ≡ s
and_true_right true t p = p
and_true_right false t p = refl

pub and_false_right : (s t : Bool) → t ≡ false → (s && t) ≡ false
and_false_right true t p = p
and_false_right false t p = refl

pub or_false_right : (s t : Bool) → t ≡ false → (s || t) ≡ s
or_false_right true t p = refl
or_false_right false t p = p

-- A test that is true exactly if another is, is that other.
pub iff_equal : (s t : Bool) → (s ≡ true → t ≡ true) → (t ≡ true → s ≡ true) → s ≡ t
iff_equal true t f g = sym (f refl)
iff_equal false true f g = g refl
iff_equal false false f g = refl

-- Whether two numbers are equal does not depend on their order.
pub eqb_symmetric : (a b : ℕ) → eqb a b ≡ eqb b a
eqb_symmetric a b = iff_equal (eqb a b) (eqb b a) (λ t. eq-eqb b a (sym (eqb-true a b t))) (λ t. eq-eqb a b (sym (eqb-true b a t)))
