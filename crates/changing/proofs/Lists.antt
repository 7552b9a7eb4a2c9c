-- Laws of `inserted_at` and `removed_at`: how long the list is, what stands where, and that each undoes the other.
-- Assumes nothing.
use Prim.Native.Nat.{ℕ, suc, ◌+◌, ◌-◌, ◌≤◌, ◌<◌}
use mathlib.Core.{Path.◌≡◌, Path.ap, Path.◌∙◌, List.List, List.◌∷◌, List.◌++◌}
use native.Mathlib.Omega.{arith}
use lib.ListN.{length, get_or, take, drop, length-append, length-drop, take-append-drop, get_or-append}
use lib.Seq.{length-take-le, take_at, drop-append-add, get_or-take, get_or-drop, get_or_at, get_or-append-add}
use Rattle.changing.specs.Change.{inserted_at, removed_at}

module _ {A : Type 0} (at : ℕ) (l : List A) where
  pub length_inserted : (x : A) → length (inserted_at at x l) ≡ suc (length l)
  unfolding inserted_at
  length_inserted x =
      omega (arith, length-append (take at l) (x ∷ drop at l), length-append (take at l) (drop at l), ap length (take-append-drop at l))

  pub length_removed : at < length l → suc (length (removed_at at l)) ≡ length l
  unfolding removed_at
  length_removed h =
      omega (arith, length-append (take at l) (drop (suc at) l), length-take-le at l (omega arith), length-drop (suc at) l)

  module _ (h : at ≤ length l) where
    front : length (take at l) ≡ at
    front = length-take-le at l h

    pub inserted_before : (x d : A) (v : ℕ) → v < at → get_or (inserted_at at x l) v d ≡ get_or l v d
    unfolding inserted_at
    inserted_before x d v before =
        get_or-append (take at l) (x ∷ drop at l) d v (omega (arith, front)) ∙ get_or-take at l v d before

    pub inserted_there : (x d : A) → get_or (inserted_at at x l) at d ≡ x
    unfolding inserted_at
    inserted_there x d = get_or_at (take at l) x (drop at l) d at front

    pub inserted_behind : (x d : A) (v : ℕ) → at ≤ v → get_or (inserted_at at x l) (suc v) d ≡ get_or l v d
    unfolding inserted_at
    inserted_behind x d v behind =
        let here : suc v ≡ length (take at l) + suc (v - at) = omega (arith, front) in let there : at + (v - at) ≡ v = omega arith in
        ap (λ i. get_or (take at l ++ (x ∷ drop at l)) i d) here ∙ (get_or-append-add (take at l) (x ∷ drop at l) (suc (v - at)) d
        ∙ (get_or-drop at l (v - at) d ∙ ap (λ i. get_or l i d) there))

    pub removed_before : (d : A) (v : ℕ) → v < at → get_or (removed_at at l) v d ≡ get_or l v d
    unfolding removed_at
    removed_before d v before =
        get_or-append (take at l) (drop (suc at) l) d v (omega (arith, front)) ∙ get_or-take at l v d before

    pub removed_behind : (d : A) (v : ℕ) → at ≤ v → get_or (removed_at at l) v d ≡ get_or l (suc v) d
    unfolding removed_at
    removed_behind d v behind =
        let here : v ≡ length (take at l) + (v - at) = omega (arith, front) in let there : suc at + (v - at) ≡ suc v = omega arith in
        ap (λ i. get_or (take at l ++ drop (suc at) l) i d) here ∙ (get_or-append-add (take at l) (drop (suc at) l) (v - at) d
        ∙ (get_or-drop (suc at) l (v - at) d ∙ ap (λ i. get_or l i d) there))

    -- Withdrawn again where it was put in.
    pub removed_inserted : (x : A) → removed_at at (inserted_at at x l) ≡ l
    unfolding removed_at inserted_at
    removed_inserted x =
        let past : suc at ≡ length (take at l) + 1 = omega (arith, front) in
        let behind : drop (suc at) (take at l ++ (x ∷ drop at l)) ≡ drop at l = ap (λ i. drop i (take at l ++ (x ∷ drop at l))) past
        ∙ drop-append-add (take at l) (x ∷ drop at l) 1 in
        rw (take_at (take at l) (x ∷ drop at l) at front, behind) (take-append-drop at l)
