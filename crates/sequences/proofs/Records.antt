-- Records of one width, one behind the other: how long they are together, the part of each, and one record more. The tags of a tag
-- file and the windows of a plan file are such records.
-- Vocabulary: length_records, record_part, records_turn.
-- Assumes nothing.
use Prim.Native.Nat.{ℕ, zero, suc, ◌+◌, ◌*◌, ◌<◌}
use mathlib.Core.{Path.◌≡◌, Path.sym, Path.◌∙◌, List.List, List.[], List.◌∷◌, List.◌++◌, List.append_assoc, List.append-nil, List.flat_map}
use native.Mathlib.{Omega.arith, Nat.mul-zero, Nat.mul-suc}
use lib.ListN.{length, get_or, take, drop, length-append}
use lib.Seq.{take_at, drop_at, drop-drop, drop-append-add}
use Rattle.sequences.specs.Table.{table, overwritten}
use Rattle.sequences.proofs.{FlatMap.flat_map-append, Table.length_table}

module _ {A B : Type 0} (f : A → List B) (width : ℕ) (wide : (x : A) → length (f x) ≡ width) where
  -- As many records as there are elements.
  pub length_records : (l : List A) → length (flat_map f l) ≡ width * length l
  unfolding flat_map
  length_records [] = sym (mul-zero width)
  length_records (x ∷ l) = omega (arith, length-append (f x) (flat_map f l), length_records l, wide x, mul-suc width (length l))

  -- The part at a position is the record of that element, whatever stands behind.
  pub record_part : (l : List A) (v : ℕ) (d : A) (rest : List B) → v < length l → take width (drop (width * v) (flat_map f l ++ rest)) ≡ f (get_or l v d)
  unfolding flat_map
  record_part [] v d rest h = absurd (omega arith)
  record_part (x ∷ l) zero d rest h =
      rw (append_assoc (f x) (flat_map f l) rest, mul-zero width) (take_at (f x) (flat_map f l ++ rest) width (wide x))
  record_part (x ∷ l) (suc v) d rest h =
      let on : width * suc v ≡ length (f x) + width * v = omega (arith, wide x, mul-suc width v) in
      rw (append_assoc (f x) (flat_map f l) rest, on, drop-append-add (f x) (flat_map f l ++ rest) (width * v)) (record_part l v d rest (omega arith))

  -- One record more: the turn of a pass that fills a table with records, where each goes to the front of what is left.
  pub records_turn : (g : ℕ → A) (v : ℕ) (before : List B) → take (width * v) (overwritten before (flat_map f (table g v)))
      ++ overwritten (drop (width * v) (overwritten before (flat_map f (table g v)))) (f (g v)) ≡ overwritten before (flat_map f (table g (suc v)))
  unfolding overwritten table flat_map
  records_turn g v before =
      let long : length (flat_map f (table g v)) ≡ width * v = length_records (table g v) ∙ rw (length_table g v) in
      let done = flat_map f (table g v) in rw (
        flat_map-append f (table g v) (g v ∷ []),
        append-nil (f (g v)),
        take_at done (drop (length done) before) (width * v) long,
        drop_at done (drop (length done) before) (width * v) long,
        drop-drop (length (f (g v))) (length done) before,
        length-append done (f (g v)),
        append_assoc,
      )
