-- The searches inside the passes: their invariants and turns, over any bounds and any table of offsets.
-- Assumes nothing.
use Prim.Native.Nat.{ℕ, zero, suc, ◌+◌, ◌-◌, ◌*◌, ◌/◌, ◌≤◌, ◌<◌}
use mathlib.Core.{Bool.Bool, Bool.true, Bool.false, Path.◌≡◌, Path.refl, Logic.⊎_elim, List.List}
use native.Mathlib.Omega.{arith}
use lib.ListN.{get_or}
use lib.Dec.{ltb}
use mir.Val.{bool_byte}
use borrow.Author.Tests.{ltb-true, ltb-false}
use Rattle.sequences.proofs.Tests.{lt_or_ge}
use Rattle.minutes.specs.Passes.{fours, Quartered, Sorted, LastBefore}

-- Before `at` no bound lies past the offset.
pub record NonePast (bounds : ℕ → ℕ) (offset from to at : ℕ) : Type 0 where
  pub low : from ≤ at
  pub high : at ≤ to
  pub before : (k : ℕ) → from ≤ k → k < at → bounds k ≤ offset

module _ (bounds : ℕ → ℕ) (offset from to : ℕ) where
  pub none_past_turn : (at : ℕ) → at < to → bounds at ≤ offset → NonePast bounds offset from to at → NonePast bounds offset from to (at + 1)
  none_past_turn at h here s =
      record {
        low = omega (arith, s.low);
        high = omega arith;
        before = λ k l r. ⊎_elim (λ g. s.before k l g) (λ g. let e : k ≡ at = omega arith in rw e here) (lt_or_ge k at);
      }

-- The offset at `low` lies before the bound, unless it is the first, and none from `low + width` on does.
pub record Bracket (offsets : List ℕ) (bound size low width : ℕ) : Type 0 where
  pub some : 0 < width
  pub stop : low + width ≤ size
  pub before : 0 < low → get_or offsets low 0 < bound
  pub past : (k : ℕ) → low + width ≤ k → k < size → bound ≤ get_or offsets k 0

module _ (offsets : List ℕ) (bound size : ℕ) where
  module _ (low width half : ℕ) (sorted : Sorted offsets size) (s : Bracket offsets bound size low width) (l : 0 < half) (r : half + half ≤ width) where
    -- Where the middle lies before the bound, the search goes on from it; where it does not, nothing from the middle on does, since
    -- offsets do not fall.
    turn_by : (t : Bool) → ltb (get_or offsets (low + half) 0) bound ≡ t → Bracket offsets bound size (low + half * bool_byte t) (width - half)
    turn_by true e =
        let up : low + half * bool_byte true ≡ low + half = omega arith in
        rw up (record {
          some = omega arith;
          stop = omega (arith, s.stop);
          before = λ g. ltb-true (get_or offsets (low + half) 0) bound e;
          past = λ k a b. s.past k (omega arith) b;
        })
    turn_by false e =
        let down : low + half * bool_byte false ≡ low = omega arith in
        rw down (record {
          some = omega arith;
          stop = omega (arith, s.stop);
          before = s.before;
          past = λ k a b. omega (arith, ltb-false (get_or offsets (low + half) 0) bound e, sorted (low + half) k (omega arith) b);
        })

    bracket_turn : Bracket offsets bound size (low + half * bool_byte (ltb (get_or offsets (low + half) 0) bound)) (width - half)
    bracket_turn = turn_by _ refl

  bracket_found : (low width : ℕ) → width ≤ 1 → Bracket offsets bound size low width → LastBefore offsets bound size low
  bracket_found low width closed s =
      record {
        high = omega (arith, s.some, s.stop);
        before = s.before;
        past = λ k l r. s.past k (omega arith) r;
      }

  -- One is left, or two and a comparison.
  pub bracket_last : (low width : ℕ) → Sorted offsets size → width ≤ 2 → Bracket offsets bound size low width →
      LastBefore offsets bound size (low + (width - 1) * bool_byte (ltb (get_or offsets (low + (width - 1)) 0) bound))
  bracket_last low width sorted few s = ⊎_elim one two (lt_or_ge width 2)
    where
      Last : Type 0
      Last = LastBefore offsets bound size (low + (width - 1) * bool_byte (ltb (get_or offsets (low + (width - 1)) 0) bound))

      one : width < 2 → Last
      one h =
          let none : width - 1 ≡ 0 = omega (arith, s.some) in
          let same : low + 0 * bool_byte (ltb (get_or offsets (low + 0) 0) bound) ≡ low = omega arith in
          rw (none, same) (bracket_found low width (omega arith) s)

      two : 2 ≤ width → Last
      two h =
          let half : width - 1 ≡ 1 = omega arith in
          rw half (bracket_found _ _ (omega arith) (bracket_turn low width 1 sorted s (omega arith) (omega arith)))

-- What a comparison takes of a half is at most the half.
pub taken_most : (half : ℕ) (t : Bool) → half * bool_byte t ≤ half
taken_most half true = omega arith
taken_most half false = omega arith

-- How many of the next three quarters begin before the bound, as the search counts them.
abbrev pub quarters_before : List ℕ → (bound low quarter : ℕ) → ℕ
quarters_before offsets bound low quarter =
    bool_byte (ltb (get_or offsets (low + quarter) 0) bound) + bool_byte (ltb (get_or offsets (low + 2 * quarter) 0) bound)
    + bool_byte (ltb (get_or offsets (low + 3 * quarter) 0) bound)

-- What they take of a quarter is at most three of it.
times_most : (quarter n : ℕ) → n ≤ 3 → quarter * n ≤ 3 * quarter
times_most quarter zero h = omega arith
times_most quarter (suc zero) h = omega arith
times_most quarter (suc (suc zero)) h = omega arith
times_most quarter (suc (suc (suc zero))) h = omega arith
times_most quarter (suc (suc (suc (suc n)))) h = absurd (omega arith)

three_most : (a b c : Bool) → bool_byte a + bool_byte b + bool_byte c ≤ 3
three_most a b c = omega (arith, taken_most 1 a, taken_most 1 b, taken_most 1 c)

pub quarters_most : (offsets : List ℕ) (bound low quarter : ℕ) → (quarters_before offsets bound low quarter ≤ 3)
    × (quarter * quarters_before offsets bound low quarter ≤ 3 * quarter)
quarters_most offsets bound low quarter =
    let most = three_most (ltb (get_or offsets (low + quarter) 0) bound) (ltb (get_or offsets (low + 2 * quarter) 0) bound) (ltb
    (get_or offsets (low + 3 * quarter) 0) bound) in (most, times_most quarter _ most)

module _ (offsets : List ℕ) (bound size low quarter : ℕ) (sorted : Sorted offsets size) (s : Bracket offsets bound size low (4 * quarter)) where
  some : 0 < quarter
  some = omega (arith, s.some)

  -- The search goes on from one of the three or from where it stands, by what it knows of the next.
  quarter_at : (at : ℕ) → low ≤ at → at ≤ low + 3 * quarter → (0 < at → get_or offsets at 0 < bound) →
      (at + quarter < low + 4 * quarter → bound ≤ get_or offsets (at + quarter) 0) → Bracket offsets bound size at quarter
  quarter_at at above below here next =
      record {
        some = some;
        stop = omega (arith, s.stop);
        before = here;
        past = λ k a b. ⊎_elim (λ h. omega (arith, next h, sorted (at + quarter) k a b)) (λ h. s.past k (omega arith) b)
            (lt_or_ge (at + quarter) (low + 4 * quarter));
      }

  -- Three comparisons, of which no later one is true where an earlier is not, since offsets do not fall.
  quarter_by : (a b c : Bool) → ltb (get_or offsets (low + quarter) 0) bound ≡ a → ltb (get_or offsets (low + 2 * quarter) 0) bound ≡ b →
      ltb (get_or offsets (low + 3 * quarter) 0) bound ≡ c → Bracket offsets bound size (low + quarter * (bool_byte a + bool_byte b + bool_byte c)) quarter
  quarter_by false false false e f g =
      let at : low + quarter * (bool_byte false + bool_byte false + bool_byte false) ≡ low = omega arith in
      rw at (quarter_at low (omega arith) (omega arith) s.before (λ _. ltb-false _ _ e))
  quarter_by true false false e f g =
      let at : low + quarter * (bool_byte true + bool_byte false + bool_byte false) ≡ low + quarter = omega arith in
      let next : low + quarter + quarter ≡ low + 2 * quarter = omega arith in
      rw at (quarter_at (low + quarter) (omega arith) (omega arith) (λ _. ltb-true _ _ e) (λ _. rw next (ltb-false _ _ f)))
  quarter_by true true false e f g =
      let at : low + quarter * (bool_byte true + bool_byte true + bool_byte false) ≡ low + 2 * quarter = omega arith in
      let next : low + 2 * quarter + quarter ≡ low + 3 * quarter = omega arith in
      rw at (quarter_at (low + 2 * quarter) (omega arith) (omega arith) (λ _. ltb-true _ _ f) (λ _. rw next (ltb-false _ _ g)))
  quarter_by true true true e f g =
      let at : low + quarter * (bool_byte true + bool_byte true + bool_byte true) ≡ low + 3 * quarter = omega arith in
      rw at (quarter_at (low + 3 * quarter) (omega arith) (omega arith) (λ _. ltb-true _ _ g) (λ h. absurd (omega arith)))
  quarter_by false true c e f g =
      let first = get_or offsets (low + quarter) 0 in
      let second = get_or offsets (low + 2 * quarter) 0 in
      absurd (omega (
        arith,
        ltb-false first bound e,
        ltb-true second bound f,
        sorted (low + quarter) (low + 2 * quarter) (omega arith) (omega (arith, some, s.stop)),
      ))
  quarter_by false false true e f g =
      let first = get_or offsets (low + quarter) 0 in
      let third = get_or offsets (low + 3 * quarter) 0 in
      absurd (omega (
        arith,
        ltb-false first bound e,
        ltb-true third bound g,
        sorted (low + quarter) (low + 3 * quarter) (omega arith) (omega (arith, some, s.stop)),
      ))
  quarter_by true false true e f g =
      let second = get_or offsets (low + 2 * quarter) 0 in
      let third = get_or offsets (low + 3 * quarter) 0 in
      absurd (omega (
        arith,
        ltb-false second bound f,
        ltb-true third bound g,
        sorted (low + 2 * quarter) (low + 3 * quarter) (omega arith) (omega (arith, some, s.stop)),
      ))

  pub quarter_turn : Bracket offsets bound size (low + quarter * quarters_before offsets bound low quarter) quarter
  quarter_turn = quarter_by _ _ _ refl refl refl

-- A number of more than two that can be quartered is four times one.
pub quartered_more : (n : ℕ) → Quartered n → 2 < n → (n ≡ 4 * (n / 4)) × Quartered (n / 4)
unfolding fours
quartered_more n q more = by q.times q.whole
  where
    by : (times : ℕ) → n ≡ fours q.rest times → (n ≡ 4 * (n / 4)) × Quartered (n / 4)
    by zero e = absurd (omega (arith, e, q.few))
    by (suc times) e =
        (omega (arith, e), record { rest = q.rest; times = times; few = q.few; whole = omega (arith, e) })

-- Where an entry does not lie before the bound, the search may end there.
pub found_before : (offsets : List ℕ) (bound few size r : ℕ) → few < size → Sorted offsets size → bound ≤ get_or offsets few 0 →
    LastBefore offsets bound few r → LastBefore offsets bound size r
found_before offsets bound few size r less sorted past found =
    record {
      high = omega (arith, found.high);
      before = found.before;
      past = λ k l h. ⊎_elim (found.past k l) (λ g. omega (arith, past, sorted few k g h)) (lt_or_ge k few);
    }
