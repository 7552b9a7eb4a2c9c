-- Paper 01, "Tag": "Five numbers of two bytes, lowest byte first: plan number, component, depth, rank, rank of the last.
-- `Tag` has fixed figures: 10 bytes, fields after the first at most 2,047."
-- Paper 02, Q-1: "an eight-byte tag (plan number, component, depth, rank)".
-- Vocabulary: field_count, tag_length, field_limit, field, tag_of, numbers, tag_with, tag_bytes, within_limit; short_length, short_tag_of,
-- short_tag_with, with_last, short_numbers, short_bytes.
use Rattle.std.specs.Prelude.{ℕ, ◌-◌, ◌*◌, Bool, ◌&&◌, List, ◌++◌, leb}
use Rattle.interval_graph.specs.Numbers.{Numbers}
use Rattle.wire.specs.LittleEndian.{le16, bytes16}
use Rattle.tag_bytes.specs.declared.tag.Tag.{Tag}
use Rattle.tag_bytes.specs.declared.short_tag.ShortTag.{ShortTag}

-- "Five numbers of two bytes"
abbrev pub field_count : ℕ
field_count = 5

-- "10 bytes"
abbrev pub tag_length : ℕ
tag_length = 2 * field_count

-- Q-1: "an eight-byte tag": one field less.
abbrev pub short_length : ℕ
short_length = 2 * (field_count - 1)

-- "at most 2,047"
abbrev pub field_limit : ℕ
field_limit = 2047

-- The field at an index, from 0, of a tag's bytes.
unfoldable pub field : List ℕ → ℕ → ℕ
field bytes i = le16 bytes (2 * i)

-- The tag that bytes hold.
abbrev pub tag_of : List ℕ → Tag
tag_of bytes =
    record { plan = field bytes 0; component = field bytes 1; depth = field bytes 2; rank = field bytes 3; last = field bytes 4 }

-- The numbers of a tag, as the rule on two tags takes them.
abbrev pub numbers : Tag → Numbers
numbers t = record { plan = t.plan; component = t.component; depth = t.depth; rank = t.rank; last = t.last }

-- The tag with given numbers.
abbrev pub tag_with : Numbers → Tag
tag_with n = record { plan = n.plan; component = n.component; depth = n.depth; rank = n.rank; last = n.last }

-- The bytes of the short tag with given numbers, and of the tag.
unfoldable pub short_bytes : Numbers → List ℕ
short_bytes n = bytes16 n.plan ++ (bytes16 n.component ++ (bytes16 n.depth ++ bytes16 n.rank))

unfoldable pub tag_bytes : Numbers → List ℕ
tag_bytes n = short_bytes n ++ bytes16 n.last

-- "fields after the first at most 2,047"
abbrev pub within_limit : Numbers → Bool
within_limit n =
    leb n.component field_limit && (leb n.depth field_limit && (leb n.rank field_limit && leb n.last field_limit))

-- The short tag that bytes hold, the one with given numbers, and the tag of a short tag and the rank of a last.
abbrev pub short_tag_of : List ℕ → ShortTag
short_tag_of bytes = record { plan = field bytes 0; component = field bytes 1; depth = field bytes 2; rank = field bytes 3 }

abbrev pub short_tag_with : Numbers → ShortTag
short_tag_with n = record { plan = n.plan; component = n.component; depth = n.depth; rank = n.rank }

abbrev pub with_last : ShortTag → ℕ → Tag
with_last t last = record { plan = t.plan; component = t.component; depth = t.depth; rank = t.rank; last = last }

-- Its numbers, with 0 for the rank of the last that it does not have: no question is answered "no" for that.
abbrev pub short_numbers : ShortTag → Numbers
short_numbers t = numbers (with_last t 0)
