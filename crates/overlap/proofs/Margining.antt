-- Laws of the margin. It is the minutes shared where there are any, 0 where two windows touch, and below 0 what lies between them; it is
-- the same in either order; it reaches a minimum just where as many minutes are shared; and of a window with itself it is its length.
-- Vocabulary: less_ge, less_lt, less_fits, less_formed, less_neg, less_reaches, reaches_margin, less_most, less_least; margin_ge, margin_lt,
-- margin_symmetric, margin_shared, margin_gap, margin_reaches_lem, margin_most, margin_least, margin_own; margin_refused, margin_past,
-- margin_answered.
-- Assumes nothing.
use Prim.Native.Nat.{ℕ, zero, suc, ◌+◌, ◌-◌, ◌≤◌, ◌<◌, min, max}
use mathlib.Core.{Bool.true, Bool.true≢false, Path.◌≡◌, Path.sym, Path.ap, Path.◌∙◌, Logic.◌⊎◌, Logic.inl, Logic.inr, Logic.⊎_elim, Logic.◌↔◌, List.List}
use native.Mathlib.Omega.{arith}
use lib.IntN.{ℤ, pos, negsuc, neg_ℤ, nat_abs, ◌-ℤ◌}
use lib.Dec.{leb→le, le→leb}
use lib.Signed.{mag, non_neg, ◌≤ℤ◌}
use mir.{Syntax.w64, Val.SFits, Val.to_z, Val.of_z, Facts.to_z_pos, Facts.to_z-of_z}
use borrow.Author.Tests.{lt-ltb, le-ltb, le-leb, leb-true}
use Rattle.sequences.proofs.Tests.{lt_or_ge}
use Rattle.std.specs.Prelude.{Result, Ok, Err}
use Rattle.refusals.specs.declared.refusal.Refusal.{Refusal}
use Rattle.refusals.specs.Question.{asked_of, position_questions}
use Rattle.refusals.proofs.Questions.{after_asked, asked_first}
use Rattle.plan.specs.declared.questions.Accepted.{Accepted}
use Rattle.plan.specs.declared.windows.Window.{Window}
use Rattle.plan.specs.File.{window_at, end_of}
use Rattle.plan.specs.Validation.{validate_answer_of}
use Rattle.plan.specs.AcceptedWindows.{AcceptedWindows}
use Rattle.plan.proofs.Calls.{plan_refused, plan_passed}
use Rattle.overlap.specs.Overlap.{shared_minutes, margin_reaches}
use Rattle.overlap.specs.Margin.{margin_of, margin_between, margin_questions, margin_answer_of}
use Rattle.overlap.proofs.Overlap.{shared_minutes_lem}

-- A difference of two numbers, on either side of 0.
less_ge : (a b : ℕ) → b ≤ a → pos a -ℤ pos b ≡ pos (a - b)
less_ge a zero h = ap pos (omega arith)
less_ge a (suc b) h = rw (le-ltb a (suc b) h)

less_lt : (a b : ℕ) → a < b → pos a -ℤ pos b ≡ negsuc (b - suc a)
less_lt a zero h = absurd (omega arith)
less_lt a (suc b) h = rw (lt-ltb a (suc b) h)

-- As the machine forms it: a difference of two numbers that fit fits, too.
module _ (a b : ℕ) (fa : SFits w64 (pos a)) (fb : SFits w64 (pos b)) where
  fits : SFits w64 (pos a -ℤ pos b)
  fits =
      ⊎_elim (λ h. rw (less_lt a b h) (record { sfits = omega (arith, fb.sfits) }))
      (λ h. rw (less_ge a b h) (record { sfits = omega (arith, fa.sfits) })) (lt_or_ge a b)

  pub less_fits : SFits w64 (to_z w64 a -ℤ to_z w64 b)
  less_fits = rw (to_z_pos w64 fa.sfits, to_z_pos w64 fb.sfits) fits

  pub less_formed : to_z w64 (of_z w64 (to_z w64 a -ℤ to_z w64 b)) ≡ pos a -ℤ pos b
  less_formed = rw (to_z_pos w64 fa.sfits, to_z_pos w64 fb.sfits) (to_z-of_z fits)

-- A number of a kind is no number of the other, and is told by its size.
pos_not_neg : (m k : ℕ) → pos m ≡ negsuc k → ⊥
pos_not_neg m k e = true≢false (ap non_neg e)

pos_same : (m k : ℕ) → pos m ≡ pos k → m ≡ k
pos_same m k e = ap nat_abs e

neg_same : (m k : ℕ) → negsuc m ≡ negsuc k → m ≡ k
neg_same m k e = ap mag e

-- Two numbers stand in order as whole numbers exactly if they do as numbers.
reach_pos : (m k : ℕ) → (pos m ≤ℤ pos k) ↔ (m ≤ k)
reach_pos m k = (λ h. leb→le m k h.le, λ h. record { le = le→leb m k h })

module _ (m a b : ℕ) where
  -- The test on sums is that a difference reaches the minimum, whatever the two numbers are.
  less_reaches : (pos m ≤ℤ (pos a -ℤ pos b)) ↔ (b + m ≤ a)
  less_reaches =
      ⊎_elim (λ h. rw (less_lt a b h) (λ r. absurd r.le, λ s. absurd (omega arith)))
      (λ h. rw (less_ge a b h) (λ r. omega (arith, (reach_pos m (a - b)).0 r), λ s. (reach_pos m (a - b)).1 (omega arith))) (lt_or_ge a b)

  pub reaches_margin : (margin_reaches m a b ≡ true) ↔ (pos m ≤ℤ (pos a -ℤ pos b))
  unfolding margin_reaches
  reaches_margin = (λ t. less_reaches.1 (leb-true (b + m) a t), λ r. le-leb (b + m) a (less_reaches.0 r))

-- A difference lies as much below 0 as is missing.
less_neg : (a b g : ℕ) → (pos a -ℤ pos b ≡ neg_ℤ (pos g)) ↔ (a + g ≡ b)
less_neg a b zero = (
  λ e. ⊎_elim (λ h. absurd (pos_not_neg 0 _ (sym e ∙ less_lt a b h)))
      (λ h. omega (arith, pos_same (a - b) 0 (sym (less_ge a b h) ∙ e))) (lt_or_ge a b),
  λ e. less_ge a b (omega arith) ∙ ap pos (omega arith),
)
less_neg a b (suc k) = (
  λ e. ⊎_elim (λ h. omega (arith, neg_same (b - suc a) k (sym (less_lt a b h) ∙ e)))
      (λ h. absurd (pos_not_neg (a - b) k (sym (less_ge a b h) ∙ e))) (lt_or_ge a b),
  λ e. less_lt a b (omega arith) ∙ ap negsuc (omega arith),
)

-- A difference is at most a number that is missing to none, and lies at most as much below 0 as is missing.
less_most : (a b m : ℕ) → a ≤ b + m → (pos a -ℤ pos b) ≤ℤ pos m
less_most a b m h =
    ⊎_elim (λ l. rw (less_lt a b l) (record { le = tt })) (λ l. rw (less_ge a b l) ((reach_pos (a - b) m).1 (omega arith))) (lt_or_ge a b)

less_least : (a b g : ℕ) → b ≤ a + g → neg_ℤ (pos g) ≤ℤ (pos a -ℤ pos b)
less_least a b zero h = rw (less_ge a b (omega arith)) ((reach_pos 0 (a - b)).1 (omega arith))
less_least a b (suc k) h =
    ⊎_elim (λ l. rw (less_lt a b l) (record { le = le→leb (b - suc a) k (omega arith) })) (λ l. rw (less_ge a b l) (record { le = tt }))
    (lt_or_ge a b)

module _ (u v : Window) where
  abbrev end : ℕ
  end = min (end_of u) (end_of v)

  abbrev offset : ℕ
  offset = max u.offset v.offset

  margin_ge : offset ≤ end → margin_of u v ≡ pos (end - offset)
  unfolding margin_of
  margin_ge h = less_ge end offset h

  margin_lt : end < offset → margin_of u v ≡ negsuc (offset - suc end)
  unfolding margin_of
  margin_lt h = less_lt end offset h

  pub margin_symmetric : margin_of u v ≡ margin_of v u
  unfolding margin_of
  margin_symmetric =
      let e : end ≡ min (end_of v) (end_of u) = omega arith in let o : offset ≡ max v.offset u.offset = omega arith in rw (e, o)

  -- "positive minutes shared"
  pub margin_shared : (m : ℕ) → 1 ≤ m → (margin_of u v ≡ pos m) ↔ (shared_minutes u v ≡ m)
  margin_shared m some = (
    λ e. ⊎_elim (λ h. absurd (pos_not_neg m _ (sym e ∙ margin_lt h)))
        (λ h. shared_minutes_lem u v ∙ pos_same (end - offset) m (sym (margin_ge h) ∙ e)) (lt_or_ge end offset),
    λ e. margin_ge (omega (arith, e, shared_minutes_lem u v)) ∙ ap pos (sym (shared_minutes_lem u v) ∙ e),
  )

  -- "0 where they touch, and a negative number for the gap": of windows that have a minute, one ends so many minutes before the other begins.
  pub margin_gap : 1 ≤ u.length → 1 ≤ v.length → (g : ℕ) →
      (margin_of u v ≡ neg_ℤ (pos g)) ↔ ((end_of u + g ≡ v.offset) ⊎ (end_of v + g ≡ u.offset))
  unfolding margin_of end_of
  margin_gap some one g = (
    λ e. let f : end + g ≡ offset = (less_neg end offset g).0 e in
        ⊎_elim (λ h. inl (omega arith)) (λ h. inr (omega arith)) (lt_or_ge (end_of u) (end_of v)),
    λ s. (less_neg end offset g).1 (⊎_elim (λ h. omega arith) (λ h. omega arith) s),
  )

  -- As many minutes as the minimum are shared just where the margin reaches it.
  pub margin_reaches_lem : (m : ℕ) → 1 ≤ m → (pos m ≤ℤ margin_of u v) ↔ (m ≤ shared_minutes u v)
  unfolding margin_of
  margin_reaches_lem m some = (
    λ r. omega (arith, (less_reaches m end offset).0 r, shared_minutes_lem u v),
    λ s. (less_reaches m end offset).1 (omega (arith, s, shared_minutes_lem u v)),
  )

  -- Of windows that have a minute and end by m, the margin lies from −(m − 2) to m.
  pub margin_most : (m : ℕ) → end_of u ≤ m → margin_of u v ≤ℤ pos m
  unfolding margin_of
  margin_most m early = less_most end offset m (omega arith)

  pub margin_least : (m : ℕ) → 1 ≤ u.length → 1 ≤ v.length → end_of u ≤ m → end_of v ≤ m → neg_ℤ (pos (m - 2)) ≤ℤ margin_of u v
  unfolding margin_of end_of
  margin_least m some one early soon = less_least end offset (m - 2) (omega arith)

pub margin_own : (w : Window) → margin_of w w ≡ pos w.length
unfolding end_of
margin_own w = margin_ge w w (omega arith) ∙ ap pos (omega arith)

-- The answers.
module _ (file : List ℕ) (first second : ℕ) where
  pub margin_refused : (answer : Result Accepted Refusal) → answer ≡ validate_answer_of file → (refusal : Refusal) → answer ≡ Err refusal →
      Err refusal ≡ margin_answer_of file first second
  unfolding margin_answer_of margin_questions
  margin_refused = plan_refused file _ Err _

  module _ {windows : ℕ} (p : AcceptedWindows file windows) (answer : Result (Unit {0}) Refusal) (e : answer ≡ asked_of (position_questions first second windows)) where
    asked_margin : margin_answer_of file first second ≡ after_asked answer Err (Ok (margin_between file first second))
    unfolding margin_answer_of margin_questions
    asked_margin =
        plan_passed file _ Err _ p.accepted
        ∙ rw (← p.counted, e) (asked_first (position_questions first second windows) Err (Ok (margin_between file first second)))

    pub margin_past : (refusal : Refusal) → answer ≡ Err refusal → Err refusal ≡ margin_answer_of file first second
    margin_past refusal f = sym (asked_margin ∙ rw f)

    pub margin_answered : answer ≡ Ok tt → (u v : Window) (r : ℤ) → u ≡ window_at file first → v ≡ window_at file second →
        r ≡ margin_of u v → Ok r ≡ margin_answer_of file first second
    unfolding margin_between
    margin_answered f u v r a b m = rw (m, a, b) (sym (asked_margin ∙ rw f))
