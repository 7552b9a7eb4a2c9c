-- The pass that writes a file of tags, long or short: its invariant, and one turn of it.
-- Vocabulary: Tagged, tagged_start, tagged_turn, label_turn, tag_turn, short_turn, tagged_end.
-- Assumes nothing.
use Prim.Native.Nat.{ℕ, ◌+◌, ◌-◌, ◌*◌, ◌≤◌, ◌<◌}
use mathlib.Core.{Bool.true, Path.◌≡◌, Path.refl, Path.ap, Path.◌∙◌, List.List, List.◌++◌, List.append-nil, List.flat_map}
use native.Mathlib.{Omega.arith, Numerals.add-one, Nat.mul-suc}
use lib.ListN.{length, take, drop, length-drop}
use lib.Seq.{take_all, drop-length}
use borrow.Rule.Slice.PartMut.{put_mid, Post-is}
use Rattle.sequences.specs.Table.{table, overwritten}
use Rattle.sequences.proofs.Table.{length_overwritten, length_table}
use Rattle.sequences.proofs.Records.{length_records, records_turn}
use Rattle.interval_graph.specs.Numbers.{Numbers, short}
use Rattle.std.specs.Prelude.{Result}
use Rattle.refusals.specs.declared.Refusal.{Refusal}
use Rattle.refusals.specs.Question.{asked_of}
use Rattle.tag_bytes.specs.Fields.{tag_length, tag_bytes, within_limit, short_length, short_tag_with, short_numbers, short_bytes}
use Rattle.tag_bytes.specs.Writing.{put_questions, after_put, write_answer_of, after_write, short_write_answer_of, after_short_write}
use Rattle.tag_bytes.proofs.Fields.{length-tag_bytes, length-short_bytes}
use Rattle.tag_bytes.proofs.Writing.{put_puts, within_short}

-- A part that goes to the end of a list is what is left from its start on, and put back it is all that follows there.
part_to_end : (a : ℕ) (l : List ℕ) → take (length l - a) (drop a l) ≡ drop a l
part_to_end a l = take_all (length l - a) (drop a l) (omega (arith, length-drop a l))

put_to_end : (a : ℕ) (l part : List ℕ) → a ≤ length l → put_mid a (length l - a) l part ≡ take a l ++ part
put_to_end a l part le = rw (Post-is a (length l) l le, drop-length l, append-nil part)

-- What is left of a table from a place on has room for what ends within the table.
part_room : (a k : ℕ) (l : List ℕ) → a + k ≤ length l → k ≤ length (take (length l - a) (drop a l))
part_room a k l h = rw (part_to_end a l) (omega (arith, length-drop a l))

-- The tags before a position are written.
pub record Tagged (bytes_of : Numbers → List ℕ) (numbers : ℕ → Numbers) (windows : ℕ) (tags₀ tags : List ℕ) (position : ℕ) : Type 0 where
  pub within : position ≤ windows
  pub written : tags ≡ overwritten tags₀ (flat_map bytes_of (table numbers position))
  pub long : length tags ≡ length tags₀

pub tagged_start : (bytes_of : Numbers → List ℕ) (numbers : ℕ → Numbers) (windows : ℕ) (tags₀ : List ℕ) → Tagged bytes_of numbers windows tags₀ tags₀ 0
unfolding overwritten flat_map table
tagged_start bytes_of numbers windows tags₀ = record { within = omega arith; written = refl; long = refl }

pub tagged_end : (bytes_of : Numbers → List ℕ) (numbers : ℕ → Numbers) (windows : ℕ) (tags₀ tags : List ℕ) (v : ℕ) → windows ≤ v →
    Tagged bytes_of numbers windows tags₀ tags v → tags ≡ overwritten tags₀ (flat_map bytes_of (table numbers windows))
tagged_end bytes_of numbers windows tags₀ tags v done s = let e : v ≡ windows = omega (arith, s.within) in rw e at s.written

-- A tag is written at its place, to the front of what is left of the table.
module _ (bytes_of : Numbers → List ℕ) (wide : ℕ) (each : (n : Numbers) → length (bytes_of n) ≡ wide) (numbers : ℕ → Numbers) (windows v : ℕ) (h : v < windows) where
  tagged_turn : (tags₀ tags part : List ℕ) → wide * v + wide ≤ length tags₀ →
      part ≡ overwritten (take (length tags - wide * v) (drop (wide * v) tags)) (bytes_of (numbers v)) → Tagged bytes_of numbers windows tags₀ tags v →
      Tagged bytes_of numbers windows tags₀ (put_mid (wide * v) (length tags - wide * v) tags part) (v + 1)
  tagged_turn tags₀ tags part room put s =
      record {
        within = omega arith;
        written = whole;
        long = rw whole (length_overwritten tags₀ (flat_map bytes_of (table numbers (v + 1))) (omega (arith, together, room)));
      }
    where
      together : length (flat_map bytes_of (table numbers (v + 1))) ≡ wide * v + wide
      together =
          length_records bytes_of wide each (table numbers (v + 1)) ∙ (ap (λ k. wide * k) (length_table numbers (v + 1) ∙ add-one v)
          ∙ omega (arith, mul-suc wide v))

      whole : put_mid (wide * v) (length tags - wide * v) tags part ≡ overwritten tags₀ (flat_map bytes_of (table numbers (v + 1)))
      whole =
          put_to_end (wide * v) tags part (omega (arith, s.long, room)) ∙ (ap (λ (l : List ℕ). take (wide * v) tags ++ l) put
          ∙ rw (part_to_end (wide * v) tags, s.written, add-one v) (records_turn bytes_of wide each numbers v tags₀))

-- So it goes with the call that writes a label of any form, whose numbers are the window's but for what its bytes do not have.
module _ (bytes_of : Numbers → List ℕ) (wide : ℕ) (each : (n : Numbers) → length (bytes_of n) ≡ wide) (numbers : ℕ → Numbers) (windows v : ℕ) (h : v < windows)
    (n : Numbers) (same : bytes_of n ≡ bytes_of (numbers v)) (fit : within_limit n ≡ true) where
  pub label_turn : (tags₀ tags part : List ℕ) (answer : Result (Unit {0}) Refusal) → wide * v + wide ≤ length tags₀ →
      answer ≡ asked_of (put_questions wide n (take (length tags - wide * v) (drop (wide * v) tags))) →
      part ≡ after_put answer (bytes_of n) (take (length tags - wide * v) (drop (wide * v) tags)) → Tagged bytes_of numbers windows tags₀ tags v →
      Tagged bytes_of numbers windows tags₀ (put_mid (wide * v) (length tags - wide * v) tags part) (v + 1)
  label_turn tags₀ tags part answer room answered stored s =
      tagged_turn bytes_of wide each numbers windows v h tags₀ tags part room
      (put_puts wide n _ (bytes_of n) part answer (part_room (wide * v) wide tags (omega (arith, s.long))) fit answered stored ∙ ap (overwritten _) same) s

-- Of long tags, and of short ones, whose bytes do not have the rank of the last.
same_bytes : (n : Numbers) → short_bytes (short_numbers (short_tag_with n)) ≡ short_bytes n
unfolding short_bytes
same_bytes n = refl

module _ (numbers : ℕ → Numbers) (windows v : ℕ) (h : v < windows) (fit : within_limit (numbers v) ≡ true) (tags₀ tags part : List ℕ) (answer : Result (Unit {0}) Refusal) where
  pub tag_turn : tag_length * windows ≤ length tags₀ →
      answer ≡ write_answer_of (numbers v) (take (length tags - tag_length * v) (drop (tag_length * v) tags)) →
      part ≡ after_write answer (numbers v) (take (length tags - tag_length * v) (drop (tag_length * v) tags)) → Tagged tag_bytes numbers windows tags₀ tags v →
      Tagged tag_bytes numbers windows tags₀ (put_mid (tag_length * v) (length tags - tag_length * v) tags part) (v + 1)
  tag_turn room = label_turn tag_bytes tag_length length-tag_bytes numbers windows v h (numbers v) refl fit tags₀ tags part answer (omega arith)

  pub short_turn : short_length * windows ≤ length tags₀ →
      answer ≡ short_write_answer_of (short_tag_with (numbers v)) (take (length tags - short_length * v) (drop (short_length * v) tags)) →
      part ≡ after_short_write answer (short_tag_with (numbers v)) (take (length tags - short_length * v) (drop (short_length * v) tags)) →
      Tagged short_bytes numbers windows tags₀ tags v →
      Tagged short_bytes numbers windows tags₀ (put_mid (short_length * v) (length tags - short_length * v) tags part) (v + 1)
  unfolding short
  short_turn room =
      label_turn short_bytes short_length length-short_bytes numbers windows v h (short_numbers (short_tag_with (numbers v))) (same_bytes (numbers v))
      (within_short (numbers v) fit) tags₀ tags part answer (omega arith)
