-- Laws of the numbers in bytes: past the end, in a part, ranges, bytes written over others, and the round trip both ways.
-- Assumes nothing.
use Prim.Native.Nat.{ℕ, suc, ◌+◌, ◌*◌, ◌/◌, ◌%◌, ◌≤◌, ◌<◌}
use mathlib.Core.{Path.◌≡◌, Path.refl, Path.sym, Path.◌∙◌, Logic.⊎_elim, List.List, List.[], List.◌∷◌, List.◌++◌, List.append_assoc}
use native.Mathlib.Omega.{arith}
use native.Mathlib.Numerals.{add-one}
use lib.ListN.{length, get_or, set, take, drop, take-append-drop, length-append, length-drop, get_or-eq_default}
use lib.Seq.{sets, sets-eq, length-sets, take_at, drop_at, take-add, drop-drop, drop-append-add, length-take-le, drop-cons, get_or-take, get_or-drop}
use borrow.Author.Tests.{le-leb, lt-leb}
use Rattle.sequences.{specs.Table.overwritten, proofs.Tests.lt_or_ge}
use Rattle.wire.specs.LittleEndian.{le16, le32, bytes16, bytes32, placed}

-- A number that begins past the end is 0.
pub le16_past : (l : List ℕ) (at : ℕ) → length l ≤ at → le16 l at ≡ 0
unfolding le16
le16_past l at h = omega (arith, get_or-eq_default l 0 h, get_or-eq_default l 0 {n = at + 1} (omega arith))

pub le32_past : (l : List ℕ) (at : ℕ) → length l ≤ at → le32 l at ≡ 0
unfolding le32
le32_past l at h =
    omega (
      arith,
      get_or-eq_default l 0 h,
      get_or-eq_default l 0 {n = at + 1} (omega arith),
      get_or-eq_default l 0 {n = at + 2} (omega arith),
      get_or-eq_default l 0 {n = at + 3} (omega arith),
    )

-- A number within a part of the bytes is the one that stands there in all of them, also where they end too soon.
part_byte : (l : List ℕ) (p m i j : ℕ) → i < m → j ≡ p + i → get_or (take m (drop p l)) i 0 ≡ get_or l j 0
part_byte l p m i j h e = rw e (get_or-take m (drop p l) i 0 h ∙ get_or-drop p l i 0)

pub le32_part : (l : List ℕ) (p m i : ℕ) → i + 4 ≤ m → le32 (take m (drop p l)) i ≡ le32 l (p + i)
unfolding le32
le32_part l p m i h =
    omega (
      arith,
      part_byte l p m i (p + i) (omega arith) (omega arith),
      part_byte l p m (i + 1) (p + i + 1) (omega arith) (omega arith),
      part_byte l p m (i + 2) (p + i + 2) (omega arith) (omega arith),
      part_byte l p m (i + 3) (p + i + 3) (omega arith) (omega arith),
    )

-- Where the bytes fit, they are stored one behind the other; where they do not, nothing is.
pub placed_fits : (l : List ℕ) (at : ℕ) (new : List ℕ) → at + length new ≤ length l → placed l at new ≡ sets l at new
unfolding placed
placed_fits l at new h = rw (le-leb (at + length new) (length l) h) (sym (sets-eq new l at h))

pub placed_short : (l : List ℕ) (at : ℕ) (new : List ℕ) → length l < at + length new → placed l at new ≡ l
unfolding placed
placed_short l at new h = rw (lt-leb (at + length new) (length l) h)

-- Neither alters how long the list is.
pub length_placed : (l : List ℕ) (at : ℕ) (new : List ℕ) → length (placed l at new) ≡ length l
length_placed l at new =
    ⊎_elim (λ h. rw (placed_short l at new h)) (λ h. rw (placed_fits l at new h) (length-sets l at new)) (lt_or_ge (length l) (at + length new))

-- A number's bytes, as the code stores them.
module _ (l : List ℕ) (at x : ℕ) where
  pub placed_two : at + 2 ≤ length l → placed l at (bytes16 x) ≡ set (set l at (x % 256)) (at + 1) (x / 256)
  unfolding bytes16
  placed_two h = rw (add-one at) (placed_fits l at (bytes16 x) h)

  pub placed_four : at + 4 ≤ length l → placed l at (bytes32 x)
      ≡ set (set (set (set l at (x % 256)) (at + 1) (x / 256 % 256)) (at + 2) (x / 65536 % 256)) (at + 3) (x / 16777216)
  unfolding bytes32
  placed_four h =
      let second : at + 1 ≡ suc at = omega arith in
      let third : at + 2 ≡ suc (suc at) = omega arith in
      let fourth : at + 3 ≡ suc (suc (suc at)) = omega arith in
      rw (second, third, fourth) (placed_fits l at (bytes32 x) h)

  -- Where they do not all fit nothing is written.
  pub unplaced_two : length l < at + 2 → placed l at (bytes16 x) ≡ l
  unfolding bytes16
  unplaced_two h = placed_short l at (bytes16 x) h

  pub unplaced_four : length l < at + 4 → placed l at (bytes32 x) ≡ l
  unfolding bytes32
  unplaced_four h = placed_short l at (bytes32 x) h

-- Bytes that are written right behind others are written with them.
sets_append : (a l : List ℕ) (at : ℕ) (b : List ℕ) → sets (sets l at a) (at + length a) b ≡ sets l at (a ++ b)
sets_append [] l at b = let e : at + 0 ≡ at = omega arith in rw e
sets_append (x ∷ a) l at b =
    let e : at + length (x ∷ a) ≡ suc at + length a = omega arith in
    rw e (sets_append a (set l at x) (suc at) b)

pub placed_behind : (l : List ℕ) (at : ℕ) (a b : List ℕ) → at + length a + length b ≤ length l → placed (placed l at a) (at + length a) b ≡ placed l at (a ++ b)
placed_behind l at a b h =
    rw (placed_fits l at a (omega arith), placed_fits l at (a ++ b) (omega (arith, length-append a b)))
    (placed_fits (sets l at a) (at + length a) b (omega (arith, length-sets l at a)) ∙ sets_append a l at b)

-- The bytes that were written stand there.
pub placed_there : (l : List ℕ) (at : ℕ) (new : List ℕ) → at + length new ≤ length l → take (length new) (drop at (placed l at new)) ≡ new
unfolding placed
placed_there l at new h =
    rw (le-leb (at + length new) (length l) h, append_assoc, drop_at (take at l) (new ++ drop (at + length new) l) at (length-take-le at l (omega arith)))
    (take_at new (drop (at + length new) l) (length new) refl)

-- At the front they are the table's first entries.
pub placed_front : (l new : List ℕ) → length new ≤ length l → placed l 0 new ≡ overwritten l new
unfolding placed overwritten
placed_front l new h = let e : 0 + length new ≡ length new = omega arith in rw (e, le-leb (length new) (length l) h)

-- Bytes that stand there already change nothing.
pub placed_same : (l : List ℕ) (at k : ℕ) → at + k ≤ length l → placed l at (take k (drop at l)) ≡ l
unfolding placed
placed_same l at k h =
    let long : length (take k (drop at l)) ≡ k = length-take-le k (drop at l) (omega (arith, length-drop at l)) in
    rw (long, le-leb (at + k) (length l) h, ← take-add at k l) (take-append-drop (at + k) l)

-- Bytes that are written right behind what was written before: the turn of a pass that fills a table with numbers.
pub placed_overwritten : (l new more : List ℕ) → length new + length more ≤ length l →
    placed (overwritten l new) (length new) more ≡ overwritten l (new ++ more)
unfolding placed overwritten
placed_overwritten l new more h =
    let whole : length (new ++ drop (length new) l) ≡ length l = omega (arith, length-append new (drop (length new) l), length-drop (length new) l) in
    rw (
      whole,
      le-leb (length new + length more) (length l) h,
      take_at new (drop (length new) l) (length new) refl,
      drop-append-add new (drop (length new) l) (length more),
      drop-drop (length more) (length new) l,
      length-append new more,
    )

-- A number that is written reads back as the same number, whatever stands behind it.
pub le16_bytes16 : (x : ℕ) (rest : List ℕ) → le16 (bytes16 x ++ rest) 0 ≡ x
unfolding le16 bytes16
le16_bytes16 x rest = omega arith

pub le32_bytes32 : (x : ℕ) (rest : List ℕ) → le32 (bytes32 x ++ rest) 0 ≡ x
unfolding le32 bytes32
le32_bytes32 x rest = omega arith

-- Two bytes that are read are written back the same, and so are four.
pub bytes16_at : (l : List ℕ) (at : ℕ) → ((i : ℕ) → get_or l i 0 < 256) → at + 2 ≤ length l → bytes16 (le16 l at) ≡ take 2 (drop at l)
unfolding le16 bytes16
bytes16_at l at bytes h =
    let low : (get_or l at 0 + 256 * get_or l (at + 1) 0) % 256 ≡ get_or l at 0 = omega (arith, bytes at) in
    let high : (get_or l at 0 + 256 * get_or l (at + 1) 0) / 256 ≡ get_or l (at + 1) 0 = omega (arith, bytes at) in
    let first : drop at l ≡ get_or l at 0 ∷ drop (suc at) l = drop-cons l at 0 (omega arith) in
    let second : drop (suc at) l ≡ get_or l (suc at) 0 ∷ drop (suc (suc at)) l = drop-cons l (suc at) 0 (omega arith) in
    rw (low, high, first, second, add-one at)

pub bytes32_at : (l : List ℕ) (at : ℕ) → ((i : ℕ) → get_or l i 0 < 256) → at + 4 ≤ length l → bytes32 (le32 l at) ≡ take 4 (drop at l)
unfolding le32 bytes32
bytes32_at l at bytes h =
    let second : at + 1 ≡ suc at = omega arith in
    let third : at + 2 ≡ suc (suc at) = omega arith in
    let fourth : at + 3 ≡ suc (suc (suc at)) = omega arith in
    rw (
      second,
      third,
      fourth,
      drop-cons l at 0 (omega arith),
      drop-cons l (suc at) 0 (omega arith),
      drop-cons l (suc (suc at)) 0 (omega arith),
      drop-cons l (suc (suc (suc at))) 0 (omega arith),
    ) (four _ _ _ _ (bytes at) (bytes (suc at)) (bytes (suc (suc at))) (bytes (suc (suc (suc at)))))
  where
    four : (a b c d : ℕ) → a < 256 → b < 256 → c < 256 → d < 256 →
        (let x = a + 256 * b + 65536 * c + 16777216 * d in x % 256 ∷ x / 256 % 256 ∷ x / 65536 % 256 ∷ x / 16777216 ∷ []) ≡ a ∷ b ∷ c ∷ d ∷ []
    four a b c d la lb lc ld =
        let x = a + 256 * b + 65536 * c + 16777216 * d in
        let one : x % 256 ≡ a = omega arith in
        let past : x / 256 ≡ b + 256 * c + 65536 * d = omega arith in
        let further : x / 65536 ≡ c + 256 * d = omega arith in
        let two : (b + 256 * c + 65536 * d) % 256 ≡ b = omega arith in
        let three : (c + 256 * d) % 256 ≡ c = omega arith in
        let last : x / 16777216 ≡ d = omega arith in rw (one, past, further, last, two, three)
