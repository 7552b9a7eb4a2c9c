-- The changed plan's bytes, as the code puts them together: the header, the windows before the place as the bytes that they are, the
-- added window, and the windows behind as the bytes that they are.
-- Vocabulary: part_copied, place_added, with_long, without_long, with_written, without_written.
-- Assumes nothing.
use Prim.Native.Nat.{ℕ, suc, ◌+◌, ◌-◌, ◌*◌, ◌≤◌, ◌<◌}
use mathlib.Core.{Path.◌≡◌, Path.refl, Path.sym, Path.ap, Path.◌∙◌, List.List, List.◌∷◌, List.◌++◌, List.append_assoc}
use mathlib.Core.List.{flat_map}
use native.Mathlib.Omega.{arith}
use lib.ListN.{length, get_or, take, drop, length-append, length-drop}
use lib.Seq.{take_all, length-take-le}
use borrow.Author.Tests.{le-leb}
use borrow.Rule.Slice.PartMut.{put_mid, post_of, Post-is}
use Rattle.sequences.specs.Table.{overwritten}
use Rattle.sequences.proofs.FlatMap.{flat_map-append}
use Rattle.wire.specs.LittleEndian.{placed}
use Rattle.wire.proofs.LittleEndian.{length_placed, placed_behind, placed_front}
use Rattle.plan.specs.declared.windows.Window.{Window}
use Rattle.plan.specs.File.{header_length, window_length, window_place, file_length, window_count, minimum_handover}
use Rattle.plan.specs.File.{header_bytes, window_bytes, file_of}
use Rattle.plan.specs.Validation.{AcceptedPlan}
use Rattle.plan.proofs.Acceptance.{few_windows, whole_file}
use Rattle.plan.proofs.Written.{length-window_bytes, length-header_bytes, front_long, windows_front, windows_behind}
use Rattle.changing.specs.Change.{windows_of, added_place, inserted_at, removed_at, changed_windows, changed_file, adding, withdrawing}
use Rattle.changing.specs.Steps.{place_of}
use Rattle.changing.proofs.Placed.{place_few}
use Rattle.changing.proofs.Changed.{changed_whole, changed_count}
use Rattle.changing.proofs.{Added.place_le, Added.added_count, Withdrawn.withdrawn_count}

-- A part of the file, copied into as many places of a list from an index on, is placed there.
pub part_copied : (file l : List ℕ) (from end to : ℕ) (part : List ℕ) → end ≤ length file → to + (end - from) ≤ length l →
    part ≡ take (end - from) (drop from file) →
    put_mid to (to + (end - from) - to) l part ≡ placed l to (take (end - from) (drop from file))
unfolding placed
part_copied file l from end to part within room e =
    let k : ℕ = end - from in let src = take k (drop from file) in
    let long : length src ≡ k = length-take-le k (drop from file) (omega (arith, length-drop from file)) in
    let rest : post_of to (to + k - to) l ≡ drop (to + k) l = Post-is to (to + k) l (omega arith) in
    rw (e, rest, long, le-leb (to + k) (length l) room) (sym (append_assoc (take to l) src (drop (to + k) l)))

-- Where an added window goes, as the code counts.
pub place_added : (file : List ℕ) (w : Window) → place_of file (window_count file) w.offset ≡ added_place file w
unfolding added_place place_of
place_added file w = refl

-- Three runs of bytes, each right behind the one before it, from the front on.
three_placed : (l h f g : List ℕ) (p q : ℕ) → p ≡ length h → q ≡ p + length f → length h + length f + length g ≤ length l →
    placed (placed (placed l 0 h) p f) q g ≡ overwritten l (h ++ (f ++ g))
three_placed l h f g p q hp hq room =
    let first : p ≡ 0 + length h = omega arith in
    rw (hq) (placed_behind (placed l 0 h) p f g (omega (arith, length_placed l 0 h))
    ∙ rw first (placed_behind l 0 h (f ++ g) (omega (arith, length-append f g))
    ∙ placed_front l (h ++ (f ++ g)) (omega (arith, length-append h (f ++ g), length-append f g))))

four_placed : (l h f x g : List ℕ) (p q r : ℕ) → p ≡ length h → q ≡ p + length f → r ≡ q + length x →
    length h + length f + length x + length g ≤ length l → placed (placed (placed (placed l 0 h) p f) q x) r g ≡ overwritten l (h ++ (f ++ (x ++ g)))
four_placed l h f x g p q r hp hq hr room =
    let kept : length (placed (placed l 0 h) p f) ≡ length l = length_placed (placed l 0 h) p f ∙ length_placed l 0 h in
    rw hr (placed_behind (placed (placed l 0 h) p f) q x g (omega arith)
    ∙ three_placed l h f (x ++ g) p q hp hq (omega (arith, length-append x g)))

-- How long the changed file is.
module _ (file : List ℕ) (ok : AcceptedPlan file) (plan : ℕ) where
  pub with_long : (w : Window) → length (changed_file file (adding plan w)) ≡ length file + window_length
  with_long w = omega (arith, changed_whole file (adding plan w), added_count file plan w, whole_file file ok)

  pub without_long : (at : ℕ) → at < window_count file → length (changed_file file (withdrawing plan at)) + window_length ≡ length file
  without_long at there = omega (arith, changed_whole file (withdrawing plan at), withdrawn_count file plan at there, whole_file file ok)

-- What the writing cites.
pub ruleset sizes = (with_long, without_long, place_few, whole_file)

module _ (file : List ℕ) (ok : AcceptedPlan file) (bytes : (i : ℕ) → get_or file i 0 < 256) (plan : ℕ) (l : List ℕ) where
  long : length file ≡ file_length (window_count file)
  long = whole_file file ok

  -- The bytes before the place of a window, and those from it on.
  front : (at place : ℕ) → place ≡ window_place at → at ≤ window_count file →
      take (place - header_length) (drop header_length file) ≡ flat_map window_bytes (take at (windows_of file))
  unfolding windows_of
  front at place e h =
      let before : place - header_length ≡ window_length * at = omega arith in
      rw before (windows_front file bytes (window_count file) long at h)

  wide : (at : ℕ) → at ≤ window_count file → length (flat_map window_bytes (take at (windows_of file))) ≡ window_length * at
  unfolding windows_of
  wide at h = front_long file bytes (window_count file) long at h

  behind : (at place : ℕ) → place ≡ window_place at → at ≤ window_count file →
      take (length file - place) (drop place file) ≡ flat_map window_bytes (drop at (windows_of file))
  unfolding windows_of
  behind at place e h =
      take_all (length file - place) (drop place file) (omega (arith, length-drop place file))
      ∙ rw e (windows_behind file bytes (window_count file) long at h)

  module _ (w : Window) where
    with_bytes : changed_file file (adding plan w) ≡ header_bytes plan (suc (window_count file)) (minimum_handover file)
        ++ (flat_map window_bytes (take (added_place file w) (windows_of file))
        ++ (window_bytes w ++ flat_map window_bytes (drop (added_place file w) (windows_of file))))
    unfolding changed_file changed_windows inserted_at file_of flat_map
    with_bytes =
        let at = added_place file w in let all = windows_of file in
        let count : length (take at all ++ (w ∷ drop at all)) ≡ suc (window_count file) = sym (changed_count file (adding plan w)) ∙ added_count file plan w in
        rw (count, flat_map-append window_bytes (take at all) (w ∷ drop at all))

    pub with_written : (place : ℕ) → place ≡ window_place (added_place file w) → length (changed_file file (adding plan w)) ≤ length l →
        (windows minimum : ℕ) → windows ≡ window_count file → minimum ≡ minimum_handover file →
        (a b c d : List ℕ) → a ≡ placed l 0 (header_bytes plan (windows + 1) minimum) →
        b ≡ placed a header_length (take (place - header_length) (drop header_length file)) → c ≡ placed b place (window_bytes w) →
        d ≡ placed c (place + window_length) (take (length file - place) (drop place file)) → d ≡ overwritten l (changed_file file (adding plan w))
    with_written place e room windows minimum counted read a b c d ea eb ec ed =
        let at = added_place file w in let within = place_le file w in
        let h = header_bytes plan (suc (window_count file)) (minimum_handover file) in
        let f = flat_map window_bytes (take at (windows_of file)) in let g = flat_map window_bytes (drop at (windows_of file)) in
        let total : length h + length f + length (window_bytes w) + length g ≤ length l = omega (
          arith,
          room,
          ap length with_bytes,
          length-append h (f ++ (window_bytes w ++ g)),
          length-append f (window_bytes w ++ g),
          length-append (window_bytes w) g,
        ) in
        let more : windows + 1 ≡ suc (window_count file) = omega arith in
        rw (ed, ec, eb, ea, more, read, front at place e within, behind at place e within, with_bytes)
        (four_placed l h f (window_bytes w) g header_length place (place + window_length) (sym (length-header_bytes plan _ _))
        (omega (arith, e, wide at within)) (omega (arith, length-window_bytes w)) total)

  module _ (at : ℕ) (there : at < window_count file) where
    without_bytes : changed_file file (withdrawing plan at) ≡ header_bytes plan (window_count file - 1) (minimum_handover file)
        ++ (flat_map window_bytes (take at (windows_of file)) ++ flat_map window_bytes (drop (suc at) (windows_of file)))
    unfolding changed_file changed_windows removed_at file_of
    without_bytes =
        let all = windows_of file in
        let count : length (take at all ++ drop (suc at) all) ≡ window_count file - 1 = omega (
          arith,
          changed_count file (withdrawing plan at),
          withdrawn_count file plan at there,
        ) in
        rw (count, flat_map-append window_bytes (take at all) (drop (suc at) all))

    pub without_written : (place : ℕ) → place ≡ window_place at → length (changed_file file (withdrawing plan at)) ≤ length l →
        (windows minimum : ℕ) → windows ≡ window_count file → minimum ≡ minimum_handover file →
        (a b c : List ℕ) → a ≡ placed l 0 (header_bytes plan (windows - 1) minimum) →
        b ≡ placed a header_length (take (place - header_length) (drop header_length file)) →
        c ≡ placed b place (take (length file - (place + window_length)) (drop (place + window_length) file)) →
        c ≡ overwritten l (changed_file file (withdrawing plan at))
    without_written place e room windows minimum counted read a b c ea eb ec =
        let h = header_bytes plan (window_count file - 1) (minimum_handover file) in let next : place + window_length ≡ window_place (suc at) = omega arith in
        let f = flat_map window_bytes (take at (windows_of file)) in let g = flat_map window_bytes (drop (suc at) (windows_of file)) in
        let total : length h + length f + length g ≤ length l = omega (
          arith,
          room,
          ap length without_bytes,
          length-append h (f ++ g),
          length-append f g,
        ) in
        rw (ec, eb, ea, counted, read, front at place e (omega arith), behind (suc at) (place + window_length) next (omega arith), without_bytes)
        (three_placed l h f g header_length place (sym (length-header_bytes plan _ _)) (omega (arith, e, wide at (omega arith))) total)
