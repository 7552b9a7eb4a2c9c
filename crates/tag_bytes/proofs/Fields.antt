-- Laws of a tag's numbers and its bytes: both ways round, and what the limit of the fields says.
-- Vocabulary: Within, within_limit_lem, limit_within, length-*, *-cut, short_tag_of-*, tag_of-*, numbers-*, short_numbers-*, short_bytes-*, tag_bytes-*.
-- Assumes nothing.
use Prim.Native.Nat.{ℕ, ◌+◌, ◌*◌, ◌/◌, ◌%◌, ◌≤◌, ◌<◌}
use mathlib.Core.{Bool.true, Path.◌≡◌, Path.refl, Path.ap, Path.◌∙◌, List.List, List.◌++◌}
use native.Mathlib.Omega.{arith}
use lib.ListN.{length, get_or, take, drop}
use lib.Seq.{take_all, take-add, drop-drop}
use lib.Dec.{leb}
use borrow.Author.Tests.{leb-true, le-leb}
use Rattle.sequences.proofs.Tests.{and_left, and_right}
use Rattle.interval_graph.specs.Numbers.{Numbers, short}
use Rattle.wire.specs.LittleEndian.{le16, bytes16}
use Rattle.wire.proofs.LittleEndian.{bytes16_at}
use Rattle.tag_bytes.specs.Fields.{tag_length, field_limit, field, tag_of, numbers, tag_with, tag_bytes, within_limit}
use Rattle.tag_bytes.specs.Fields.{short_length, short_tag_of, short_tag_with, short_numbers, short_bytes}

-- The fields after the plan number are at most the limit.
pub record Within (n : Numbers) : Type 0 where
  pub component : n.component ≤ field_limit
  pub depth : n.depth ≤ field_limit
  pub rank : n.rank ≤ field_limit
  pub last : n.last ≤ field_limit

-- The test says so of every field.
pub within_limit_lem : (n : Numbers) → within_limit n ≡ true → Within n
within_limit_lem n t =
    let after = and_right (leb n.component field_limit) _ t in
    let later = and_right (leb n.depth field_limit) _ after in
    record {
      component = leb-true _ _ (and_left (leb n.component field_limit) _ t);
      depth = leb-true _ _ (and_left (leb n.depth field_limit) _ after);
      rank = leb-true _ _ (and_left (leb n.rank field_limit) _ later);
      last = leb-true _ _ (and_right (leb n.rank field_limit) _ later);
    }

-- Fields within the limit pass the test.
pub limit_within : (n : Numbers) → Within n → within_limit n ≡ true
limit_within n w = rw (le-leb _ _ w.component, le-leb _ _ w.depth, le-leb _ _ w.rank, le-leb _ _ w.last)

-- A tag has as many bytes as its figure says.
pub length-short_bytes : (n : Numbers) → length (short_bytes n) ≡ short_length
unfolding short_bytes bytes16
length-short_bytes n = refl

pub length-tag_bytes : (n : Numbers) → length (tag_bytes n) ≡ tag_length
unfolding tag_bytes short_bytes bytes16
length-tag_bytes n = refl

-- A short tag's bytes are the first of the tag's, and the tag's are all of them.
pub short_bytes-cut : (n : Numbers) → short_bytes n ≡ take short_length (tag_bytes n)
unfolding tag_bytes short_bytes bytes16
short_bytes-cut n = refl

pub tag_bytes-cut : (n : Numbers) → tag_bytes n ≡ take tag_length (tag_bytes n)
unfolding tag_bytes short_bytes bytes16
tag_bytes-cut n = refl

-- The bytes of a tag hold its numbers.
two_bytes : (x : ℕ) → x % 256 + 256 * (x / 256) ≡ x
two_bytes x = omega arith

pub short_tag_of-short_bytes : (n : Numbers) → short_tag_of (short_bytes n) ≡ short_tag_with n
unfolding field le16 short_bytes bytes16
short_tag_of-short_bytes n = rw (two_bytes n.plan, two_bytes n.component, two_bytes n.depth, two_bytes n.rank)

pub tag_of-tag_bytes : (n : Numbers) → tag_of (tag_bytes n) ≡ tag_with n
unfolding field le16 tag_bytes short_bytes bytes16
tag_of-tag_bytes n = rw (two_bytes n.plan, two_bytes n.component, two_bytes n.depth, two_bytes n.rank, two_bytes n.last)

-- The tag with given numbers has those numbers.
pub numbers-tag_with : (n : Numbers) → numbers (tag_with n) ≡ n
numbers-tag_with n = refl

-- The numbers of a short tag are those of the tag, but for the last.
pub short_numbers-short_tag_with : (n : Numbers) → short_numbers (short_tag_with n) ≡ short n
unfolding short
short_numbers-short_tag_with n = refl

-- As many bytes as a tag has, written from the numbers that they hold, are the same bytes.
module _ (bytes : List ℕ) (small : (i : ℕ) → get_or bytes i 0 < 256) where
  two : (at : ℕ) → at + 2 ≤ length bytes → bytes16 (le16 bytes at) ≡ take 2 (drop at bytes)
  two at h = bytes16_at bytes at small h

  joined : (at j k : ℕ) → take j (drop at bytes) ++ take k (drop (at + j) bytes) ≡ take (j + k) (drop at bytes)
  joined at j k = rw (take-add j k (drop at bytes), drop-drop j at bytes)

  front : short_length ≤ length bytes → bytes16 (field bytes 0) ++ (bytes16 (field bytes 1) ++ (bytes16 (field bytes 2) ++ bytes16 (field bytes 3)))
      ≡ take short_length bytes
  unfolding field
  front long =
      rw (two 0 (omega arith), two 2 (omega arith), two 4 (omega arith), two 6 (omega arith)) (rw (joined 4 2 2, joined 2 2 4, joined 0 2 6))

  behind : tag_length ≤ length bytes → take short_length bytes ++ bytes16 (field bytes 4) ≡ take tag_length bytes
  unfolding field
  behind long = ap (λ b. take short_length bytes ++ b) (two 8 (omega arith)) ∙ joined 0 8 2

  pub short_bytes-short_tag_of : length bytes ≡ short_length → short_bytes (short_numbers (short_tag_of bytes)) ≡ bytes
  unfolding short_bytes
  short_bytes-short_tag_of long = front (omega arith) ∙ take_all short_length bytes (omega arith)

  pub tag_bytes-tag_of : length bytes ≡ tag_length → tag_bytes (numbers (tag_of bytes)) ≡ bytes
  unfolding tag_bytes short_bytes
  tag_bytes-tag_of long = rw (front (omega arith)) (behind (omega arith) ∙ take_all tag_length bytes (omega arith))
