-- Laws of `table` and `overwritten`: what a pass that writes a table from the front needs. `by_table` has those by which a tactic finds
-- a turn of such a pass by itself.
-- Assumes nothing.
use Prim.Native.Nat.{ℕ, zero, suc, ◌+◌, ◌-◌, ◌≤◌, ◌<◌}
use mathlib.Core.Path.{◌≡◌, refl, sym, ap, ◌∙◌}
use mathlib.Core.{Logic.⊎_elim, List.List, List.[], List.◌∷◌, List.◌++◌, List.append_assoc}
use native.Mathlib.{Omega.arith, Numerals.add-one}
use lib.ListN.{length, get_or, take, drop, set, length-append, length-drop, length-set, get_or-append}
use lib.Seq.{set_at, drop-cons, take_at, drop_at, get_or_at, get_or-drop, get_or-append-add}
use Rattle.std.proofs.Math.Nat.{add-zero}
use Rattle.std.proofs.lemmas.List.{append-nil, drop-take}
use Rattle.sequences.specs.Table.{table, overwritten, Holds}
use Rattle.sequences.proofs.Tests.{lt_or_ge}

module _ {A : Type 0} where
  pub length_table : (f : ℕ → A) (n : ℕ) → length (table f n) ≡ n
  unfolding table
  length_table f zero = refl
  length_table f (suc n) = omega (arith, length-append (table f n) (f n ∷ []), length_table f n)

  -- The entry at k is f k.
  pub get_or-table : (f : ℕ → A) (n k : ℕ) (d : A) → k < n → get_or (table f n) k d ≡ f k
  unfolding table
  get_or-table f zero k d h = absurd (omega arith)
  get_or-table f (suc n) k d h =
      ⊎_elim (λ g. get_or-append (table f n) (f n ∷ []) d k (omega (arith, length_table f n)) ∙ get_or-table f n k d g)
      (λ g. let e : k ≡ n = omega arith in rw e (get_or_at (table f n) (f n) [] d n (length_table f n))) (lt_or_ge k n)

  -- A table depends on f below n only.
  pub table_cong : (f g : ℕ → A) (n : ℕ) → ((k : ℕ) → k < n → f k ≡ g k) → table f n ≡ table g n
  unfolding table
  table_cong f g zero e = refl
  table_cong f g (suc n) e =
      let below : table f n ≡ table g n = table_cong f g n (λ k h. e k (omega arith)) in
      let here : f n ≡ g n = e n (omega arith) in rw (below, here)

  -- One store more: the turn of every pass that fills a table.
  pub table_turn : (f : ℕ → A) (l : List A) (v : ℕ) → v < length l → set (table f v ++ drop v l) v (f v) ≡ table f (suc v) ++ drop (suc v) l
  unfolding table
  table_turn f l v h =
      rw (drop-cons l v (f v) h, set_at (table f v) (get_or l v (f v)) (drop (suc v) l) (f v) v (length_table f v), append_assoc)

  pub length_overwritten : (l new : List A) → length new ≤ length l → length (overwritten l new) ≡ length l
  unfolding overwritten
  length_overwritten l new h = omega (arith, length-append new (drop (length new) l), length-drop (length new) l)

  -- The front is what was written.
  pub take_overwritten : (l new : List A) → take (length new) (overwritten l new) ≡ new
  unfolding overwritten
  take_overwritten l new = take_at new (drop (length new) l) (length new) refl

  -- A table of n entries, overwritten, as a pass leaves it.
  pub overwritten_table : (f : ℕ → A) (n : ℕ) (l : List A) → overwritten l (table f n) ≡ table f n ++ drop n l
  unfolding overwritten
  overwritten_table f n l = rw length_table

  -- What lies past it stays.
  pub overwritten_past : (f : ℕ → A) (n : ℕ) (l : List A) (k : ℕ) (d : A) → n ≤ k → get_or (overwritten l (table f n)) k d ≡ get_or l k d
  overwritten_past f n l k d h =
      let there : k ≡ length (table f n) + (k - n) = omega (arith, length_table f n) in let here : n + (k - n) ≡ k = omega arith in
      rw (overwritten_table f n l)
      (ap (λ i. get_or (table f n ++ drop n l) i d) there ∙ get_or-append-add (table f n) (drop n l) (k - n) d ∙ get_or-drop n l (k - n) d
      ∙ ap (λ i. get_or l i d) here)

  -- Written again by as many entries, nothing of the first writing is left.
  pub overwritten_again : (l first second : List A) → length first ≡ length second → overwritten (overwritten l first) second ≡ overwritten l second
  unfolding overwritten
  overwritten_again l first second e = rw (drop_at first (drop (length first) l) (length second) e, e)

module _ {A : Type 0} (f : ℕ → A) (l : List A) where
  -- Nothing is written yet.
  pub overwritten_none : overwritten l (table f 0) ≡ l
  unfolding overwritten table
  overwritten_none = refl

  -- One store more, of an entry that is f's.
  pub overwritten_next : (v : ℕ) (x : A) → v < length l → x ≡ f v → set (overwritten l (table f v)) v x ≡ overwritten l (table f (v + 1))
  overwritten_next v x h same = rw (same, add-one v, overwritten_table f v l, overwritten_table f (suc v) l) (table_turn f l v h)

  pub length_overwritten_table : (v : ℕ) → v ≤ length l → length (overwritten l (table f v)) ≡ length l
  length_overwritten_table v h = length_overwritten l (table f v) (omega (arith, length_table f v))

  -- An entry that is written.
  pub overwritten_at : (v k : ℕ) (d : A) → k < v → get_or (overwritten l (table f v)) k d ≡ f k
  overwritten_at v k d h =
      rw (overwritten_table f v l) (get_or-append (table f v) (drop v l) d k (omega (arith, length_table f v)) ∙ get_or-table f v k d h)

  -- Where only the front was handed over, and the rest stood by.
  pub overwritten_front : (n : ℕ) → overwritten (take n l) (table f n) ++ drop n l ≡ overwritten l (table f n)
  overwritten_front n =
      let none : drop n (take n l) ≡ [] = rw add-zero at (drop-take n 0 l) in
      rw (overwritten_table f n (take n l), overwritten_table f n l, none, append-nil)

pub ruleset by_table = (overwritten_none, overwritten_next, length_overwritten_table, overwritten_at, overwritten_past)

-- A table of n entries that a pass is writing from the front, before the entry v: the entries before it are f's, the rest is
-- as it was.
pub record Filling {A : Type 0} (f : ℕ → A) (n : ℕ) (before now : List A) (v : ℕ) : Type 0 where
  pub within : v ≤ n
  pub filled : now ≡ table f v ++ drop v before
  pub long : length now ≡ length before

module _ {A : Type 0} (f : ℕ → A) (n : ℕ) (before now : List A) where
  -- One store more.
  pub filling_turn : (v : ℕ) (x : A) → n ≤ length before → v < n → x ≡ f v → Filling f n before now v → Filling f n before (set now v x) (v + 1)
  filling_turn v x room h same s =
      record {
        within = omega arith;
        filled = rw (s.filled, same, add-one v) (table_turn f before v (omega arith));
        long = length-set now v x ∙ s.long;
      }

  -- The entries that stand.
  pub filling_at : (v k : ℕ) (d : A) → k < v → Filling f n before now v → get_or now k d ≡ f k
  filling_at v k d h s =
      rw s.filled (get_or-append (table f v) (drop v before) d k (omega (arith, length_table f v)) ∙ get_or-table f v k d h)

  -- Those that are still to be written.
  pub filling_past : (v k : ℕ) (d : A) → v ≤ k → Filling f n before now v → get_or now k d ≡ get_or before k d
  filling_past v k d h s = rw (s.filled, ← overwritten_table f v before) (overwritten_past f v before k d h)

  -- The pass is done.
  pub filling_end : (v : ℕ) → n ≤ v → Filling f n before now v → now ≡ overwritten before (table f n)
  filling_end v done s = let e : v ≡ n = omega (arith, s.within) in (rw e at s.filled) ∙ sym (overwritten_table f n before)

pub filling_start : {A : Type 0} (f : ℕ → A) (n : ℕ) (before : List A) → Filling f n before before 0
unfolding table
filling_start f n before = record { within = omega arith; filled = refl; long = refl }

-- A table that is overwritten holds what was written.
pub overwritten_holds : (f : ℕ → ℕ) (n : ℕ) (before now : List ℕ) → n ≤ length before → now ≡ overwritten before (table f n) → Holds now f n
overwritten_holds f n before now room e =
    record { long = omega (arith, standing.long); at = λ k h. filling_at f n before now n k 0 h standing }
  where
    standing : Filling f n before now n
    standing =
        record {
          within = omega arith;
          filled = e ∙ overwritten_table f n before;
          long = rw e (length_overwritten before (table f n) (omega (arith, length_table f n)));
        }
