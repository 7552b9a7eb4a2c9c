-- A table to whose front entries are written one after another, where how many there will be is not known beforehand: the
-- entry that is added stands where the list so far ends. And the list of numbers that pass a test, one number more at its
-- end.
-- Vocabulary: Written.
-- Assumes nothing.
use Prim.Native.Nat.{ℕ, zero, suc, ◌+◌, ◌-◌, ◌≤◌, ◌<◌}
use mathlib.Core.{Bool.Bool, Bool.true, Bool.false, Path.◌≡◌, Path.refl, Path.sym, Path.ap, Path.◌∙◌}
use mathlib.Core.List.{List, [], ◌∷◌, ◌++◌, append_assoc, append-nil}
use native.Mathlib.Omega.{arith}
use lib.{ListN.length, ListN.drop, ListN.set, ListN.get_or, ListN.length-append, ListN.length-set, Seq.set_at, Seq.drop-cons}
use Rattle.sequences.specs.{Search.passing, Table.overwritten}
use Rattle.sequences.proofs.{Tests.cond_cases, Passing.passing_add, Passing.passing_true, Passing.passing_false}

-- The list `new` stands at the front of the table, and the rest is as it was.
pub record Written {A : Type 0} (before now new : List A) : Type 0 where
  pub written : now ≡ overwritten before new
  pub long : length now ≡ length before

module _ {A : Type 0} where
  -- Nothing is written yet.
  pub written_none : (before : List A) → Written before before []
  unfolding overwritten
  written_none before = record { written = refl; long = refl }

  -- One entry more.
  pub written_more : (before now new : List A) (at : ℕ) (x : A) → at ≡ length new → at < length before → Written before now new →
      Written before (set now at x) (new ++ (x ∷ []))
  unfolding overwritten
  written_more before now new at x e room s = record { written = rw (s.written, ← e) stored; long = length-set now at x ∙ s.long }
    where
      stored : set (new ++ drop at before) at x ≡ (new ++ (x ∷ [])) ++ drop (length (new ++ (x ∷ []))) before
      stored =
          let long : length (new ++ (x ∷ [])) ≡ suc at = omega (arith, length-append new (x ∷ [])) in
          rw (long, drop-cons before at x room, set_at new (get_or before at x) (drop (suc at) before) x at (sym e), append_assoc)

module _ (p : ℕ → Bool) (v : ℕ) where
  -- A number that passes comes to the end of the list,
  pub passing_more : p v ≡ true → passing p 0 (v + 1) ≡ passing p 0 v ++ (v ∷ [])
  unfolding passing
  passing_more t =
      let e : 0 + v ≡ v = omega arith in passing_add p 0 v 1 ∙ rw e (ap (λ (l : List ℕ). passing p 0 v ++ l) (passing_true p v 0 t))

  -- and one that does not leaves it as it is.
  pub passing_kept : p v ≡ false → passing p 0 (v + 1) ≡ passing p 0 v
  unfolding passing
  passing_kept t =
      let e : 0 + v ≡ v = omega arith in
      passing_add p 0 v 1 ∙ rw e (ap (λ (l : List ℕ). passing p 0 v ++ l) (passing_false p v 0 t) ∙ append-nil (passing p 0 v))

-- A longer range has no fewer, and no range has more than its numbers.
pub passing_monotone : (p : ℕ → Bool) (v n : ℕ) → v ≤ n → length (passing p 0 v) ≤ length (passing p 0 n)
passing_monotone p v n h =
    let e : n ≡ v + (n - v) = omega arith in
    rw (e, passing_add p 0 v (n - v)) (omega (arith, length-append (passing p 0 v) (passing p (0 + v) (n - v))))

pub passing_few : (p : ℕ → Bool) (a n : ℕ) → length (passing p a n) ≤ n
unfolding passing
passing_few p a zero = omega arith
passing_few p a (suc n) =
    cond_cases (λ (l : List ℕ). length l ≤ suc n) (p a) (λ t. omega (arith, passing_few p (suc a) n))
    (λ t. omega (arith, passing_few p (suc a) n))
