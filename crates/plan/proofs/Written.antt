-- The file of a list of windows: it has the bytes of so many windows, its windows are read back, and it is accepted exactly if the
-- windows pass. And the other way round: the bytes behind a file's header are those of its windows.
-- Vocabulary: length-window_bytes, window_of-window_bytes, window_placed, window_unplaced, header_placed, header_unplaced, length-header_bytes,
-- length-file_of, plan-file_of, count-file_of, minimum_file_of, window_file_of, front_long, windows_front, windows_behind, windows_pass, accepted-file_of.
-- Assumes nothing.
use Prim.Native.Nat.{ℕ, zero, suc, ◌+◌, ◌*◌, ◌/◌, ◌%◌, ◌≤◌, ◌<◌}
use mathlib.Core.{Bool.Bool, Bool.true, Bool.◌&&◌, Path.◌≡◌, Path.refl, Path.sym, Path.ap, Path.◌∙◌}
use mathlib.Core.List.{List, [], ◌∷◌, ◌++◌, append-nil, flat_map}
use native.Mathlib.Omega.{arith}
use lib.{ListN.length, ListN.get_or, ListN.take, ListN.drop, ListN.length-append, ListN.length-drop, ListN.take-append-drop, Dec.leb}
use lib.Seq.{take_all, take-add, take_at, drop_at, drop-drop, drop-append-add, length-take-le}
use borrow.Author.Tests.{le-leb, eq-eqb}
use Rattle.sequences.specs.Table.{table}
use Rattle.sequences.proofs.{Tests.and_true_right, Table.length_table, FlatMap.flat_map-append, Records.length_records, Records.record_part}
use Rattle.wire.specs.LittleEndian.{le16, le32, bytes16, bytes32, placed}
use Rattle.wire.proofs.LittleEndian.{length_placed, placed_behind, placed_short, bytes32_at}
use Rattle.refusals.specs.Question.{about, each, all_yes}
use Rattle.refusals.proofs.Questions.{all_append, all_about}
use Rattle.plan.specs.declared.windows.Window.{Window}
use Rattle.plan.specs.File.{header_length, window_length, file_length, window_place, plan_number, window_count, minimum_place, minimum_handover}
use Rattle.plan.specs.File.{window_of, window_at, header_bytes, window_bytes, file_of}
use Rattle.plan.specs.Validation.{greatest_count, minimum_passes, offset_before, window_questions, file_questions, plan_questions}
use Rattle.plan.specs.Validation.{asked_with}
use Rattle.plan.proofs.{Reading.window_read, Validated.windows_asked}

pub length-window_bytes : (w : Window) → length (window_bytes w) ≡ window_length
unfolding window_bytes bytes32
length-window_bytes w = refl

-- A window that is written reads back.
pub window_of-window_bytes : (w : Window) → window_of (window_bytes w) ≡ w
unfolding window_of window_bytes le32 bytes32
window_of-window_bytes w = rw (whole w.offset, whole w.length)
  where
    whole : (x : ℕ) → x % 256 + 256 * (x / 256 % 256) + 65536 * (x / 65536 % 256) + 16777216 * (x / 16777216) ≡ x
    whole x = omega arith

-- A window's two numbers, written one behind the other.
module _ (w : Window) (l : List ℕ) (at : ℕ) where
  pub window_placed : (a b : List ℕ) → at + window_length ≤ length l → a ≡ placed l at (bytes32 w.offset) →
      b ≡ placed a (at + 4) (bytes32 w.length) → b ≡ placed l at (window_bytes w)
  unfolding window_bytes bytes32
  window_placed a b room first second = rw (second, first) (placed_behind l at (bytes32 w.offset) (bytes32 w.length) (omega arith))

  pub window_unplaced : length l < at + window_length → l ≡ placed l at (window_bytes w)
  window_unplaced short = sym (placed_short l at (window_bytes w) (omega (arith, length-window_bytes w)))

pub length-header_bytes : (plan windows minimum : ℕ) → length (header_bytes plan windows minimum) ≡ header_length
unfolding header_bytes bytes16 bytes32
length-header_bytes plan windows minimum = refl

-- A header's three numbers, written one behind the other.
module _ (plan windows minimum : ℕ) (l : List ℕ) where
  pub header_placed : (a b c : List ℕ) → header_length ≤ length l → a ≡ placed l 0 (bytes16 plan) → b ≡ placed a 2 (bytes16 windows) →
      c ≡ placed b minimum_place (bytes32 minimum) → c ≡ placed l 0 (header_bytes plan windows minimum)
  unfolding header_bytes bytes16 bytes32
  header_placed a b c room first second third =
      let kept = length_placed l 0 (bytes16 plan) in rw (third, second, first)
      (placed_behind (placed l 0 (bytes16 plan)) 2 (bytes16 windows) (bytes32 minimum) (omega (arith, kept))
      ∙ placed_behind l 0 (bytes16 plan) (bytes16 windows ++ bytes32 minimum) (omega arith))

  pub header_unplaced : length l < header_length → l ≡ placed l 0 (header_bytes plan windows minimum)
  header_unplaced short = sym (placed_short l 0 (header_bytes plan windows minimum) (omega (arith, length-header_bytes plan windows minimum)))

module _ (plan minimum : ℕ) (windows : List Window) where
  pub length-file_of : length (file_of plan minimum windows) ≡ file_length (length windows)
  unfolding file_of
  length-file_of =
      length-append (header_bytes plan (length windows) minimum) (flat_map window_bytes windows)
      ∙ rw (length-header_bytes plan (length windows) minimum, length_records window_bytes window_length length-window_bytes windows)

  pub plan-file_of : plan_number (file_of plan minimum windows) ≡ plan
  unfolding plan_number file_of header_bytes le16 bytes16
  plan-file_of = omega arith

  pub count-file_of : window_count (file_of plan minimum windows) ≡ length windows
  unfolding window_count file_of header_bytes le16 bytes16
  count-file_of = omega arith

  pub minimum_file_of : minimum_handover (file_of plan minimum windows) ≡ minimum
  unfolding minimum_handover file_of header_bytes le32 bytes16 bytes32
  minimum_file_of = omega arith

  -- Its windows are those of the list.
  pub window_file_of : (v : ℕ) (d : Window) → v < length windows → window_at (file_of plan minimum windows) v ≡ get_or windows v d
  unfolding window_at file_of
  window_file_of v d h =
      let header = header_bytes plan (length windows) minimum in
      let place : window_place v ≡ length header + window_length * v = omega (arith, length-header_bytes plan (length windows) minimum) in
      let part : List ℕ → List ℕ = take window_length in ap window_of (ap (λ i. part (drop i (header ++ flat_map window_bytes windows))) place
      ∙ (ap part (drop-append-add header (flat_map window_bytes windows) (window_length * v))
      ∙ rw append-nil at (record_part window_bytes window_length length-window_bytes windows v d [] h)))
      ∙ window_of-window_bytes (get_or windows v d)

-- The windows of a file of n of them, written again, are its bytes behind the header: those before a position, and those from it on.
module _ (file : List ℕ) (bytes : (i : ℕ) → get_or file i 0 < 256) where
  part_bytes : (v : ℕ) → window_place v + window_length ≤ length file → window_bytes (window_at file v) ≡ take window_length (drop (window_place v) file)
  unfolding window_bytes
  part_bytes v h =
      let place = window_place v in
      rw (
        ← window_read file v _ _ refl refl,
        bytes32_at file place bytes (omega arith),
        bytes32_at file (place + 4) bytes (omega arith),
        ← drop-drop 4 place file,
      ) (sym (take-add 4 4 (drop place file)))

  all_bytes : (k : ℕ) → window_place k ≤ length file → flat_map window_bytes (table (window_at file) k) ≡ take (window_length * k) (drop header_length file)
  unfolding table flat_map
  all_bytes zero h = refl
  all_bytes (suc k) h =
      let e : window_length * suc k ≡ window_length * k + window_length = omega arith in
      flat_map-append window_bytes (table (window_at file) k) (window_at file k ∷ [])
      ∙ rw (
        append-nil (window_bytes (window_at file k)),
        all_bytes k (omega arith),
        part_bytes k (omega arith),
        e,
        take-add (window_length * k) window_length (drop header_length file),
        drop-drop (window_length * k) header_length file,
      )

  module _ (n : ℕ) (whole : length file ≡ file_length n) (at : ℕ) (within : at ≤ n) where
    split_bytes : drop header_length file
        ≡ flat_map window_bytes (take at (table (window_at file) n)) ++ flat_map window_bytes (drop at (table (window_at file) n))
    split_bytes =
        let all = table (window_at file) n in
        sym (take_all (window_length * n) (drop header_length file) (omega (arith, length-drop header_length file)))
        ∙ (sym (all_bytes n (omega arith))
        ∙ (ap (flat_map window_bytes) (sym (take-append-drop at all)) ∙ flat_map-append window_bytes (take at all) (drop at all)))

    pub front_long : length (flat_map window_bytes (take at (table (window_at file) n))) ≡ window_length * at
    front_long =
        let all = table (window_at file) n in
        length_records window_bytes window_length length-window_bytes (take at all)
        ∙ rw (length-take-le at all (omega (arith, length_table (window_at file) n)))

    pub windows_front : take (window_length * at) (drop header_length file) ≡ flat_map window_bytes (take at (table (window_at file) n))
    windows_front = rw split_bytes (take_at (flat_map window_bytes (take at (table (window_at file) n))) _ (window_length * at) front_long)

    pub windows_behind : drop (window_place at) file ≡ flat_map window_bytes (drop at (table (window_at file) n))
    windows_behind =
        sym (drop-drop (window_length * at) header_length file)
        ∙ rw split_bytes (drop_at (flat_map window_bytes (take at (table (window_at file) n))) _ (window_length * at) front_long)

-- Each window of a list answers questions 4, 5 and 6 with "yes", where the one before the first has an offset.
unfoldable pub windows_pass : (minimum before : ℕ) → List Window → Bool
windows_pass minimum before [] = true
windows_pass minimum before (w ∷ later) = all_yes (window_questions minimum before w) && windows_pass minimum w.offset later

-- One window more, that is read from a file.
window_more : (file : List ℕ) (minimum v : ℕ) (w : Window) (later : List Window) → window_at file v ≡ w →
    (all_yes (asked_with minimum file v) && windows_pass minimum (offset_before file (suc v)) later)
    ≡ (all_yes (window_questions minimum (offset_before file v) w) && windows_pass minimum w.offset later)
unfolding offset_before
window_more file minimum v w later here =
    let next : offset_before file (suc v) ≡ w.offset = ap (λ (x : Window). x.offset) here in rw (next, here)

-- The questions of a file's windows from v on, where they are those of a list.
windows_asked_lem : (file : List ℕ) (minimum v : ℕ) (windows : List Window) (d : Window) →
    ((i : ℕ) → i < length windows → window_at file (v + i) ≡ get_or windows i d) →
    all_yes (each (asked_with minimum file) v (length windows)) ≡ windows_pass minimum (offset_before file v) windows
unfolding windows_pass each
windows_asked_lem file minimum v [] d reads = refl
windows_asked_lem file minimum v (w ∷ later) d reads =
    let stay : v + 0 ≡ v = omega arith in let here : window_at file v ≡ w = rw stay at (reads 0 (omega arith)) in
    let rest = windows_asked_lem file minimum (suc v) later d
    (λ i h. let on : suc v + i ≡ v + suc i = omega arith in rw on (reads (suc i) (omega arith))) in
    all_append (about v (asked_with minimum file v)) (each (asked_with minimum file) (suc v) (length later))
    ∙ rw (all_about v (asked_with minimum file v), rest) (window_more file minimum v w later here)

-- Of a file with as many bytes as its windows have, questions 2 and 14 alone are left of the first four.
file_asked : (file : List ℕ) (n minimum : ℕ) → window_count file ≡ n → minimum_handover file ≡ minimum → length file ≡ file_length n →
    all_yes (file_questions file) ≡ (leb n greatest_count && minimum_passes minimum)
unfolding file_questions
file_asked file n minimum counted read long =
    rw (counted, read, le-leb header_length (length file) (omega arith), eq-eqb (length file) (file_length n) long)
    (ap (λ t. leb n greatest_count && t) (and_true_right (minimum_passes minimum) true refl))

-- The file is that of an accepted plan exactly if it has few enough windows and a minimum that passes, and they pass.
pub accepted-file_of : (plan minimum : ℕ) (windows : List Window) (d : Window) →
    all_yes (plan_questions (file_of plan minimum windows))
    ≡ ((leb (length windows) greatest_count && minimum_passes minimum) && windows_pass minimum 0 windows)
unfolding plan_questions offset_before
accepted-file_of plan minimum windows d =
    let file = file_of plan minimum windows in all_append (file_questions file) (each (windows_asked file) 0 (window_count file))
    ∙ rw (
      file_asked file (length windows) minimum (count-file_of plan minimum windows) (minimum_file_of plan minimum windows)
          (length-file_of plan minimum windows),
      count-file_of plan minimum windows,
      minimum_file_of plan minimum windows,
    )
    (ap (λ t. (leb (length windows) greatest_count && minimum_passes minimum) && t)
    (windows_asked_lem file minimum 0 windows d (λ i h. let e : 0 + i ≡ i = omega arith in rw e (window_file_of plan minimum windows i d h))))
