-- What a lookup by the C interface leaves in the number that is lent to it.
-- Vocabulary: offset_after.
use Rattle.std.specs.Prelude.{ℕ, ◌*◌, Result, Ok, Err}
use Rattle.refusals.specs.declared.Refusal.{Refusal}
use Rattle.tag_bytes.specs.Fields.{tag_length}

-- Where in the tag file the part begins that a lookup hands back: `lookup_part` takes its ten bytes from there. A part itself
-- does not cross into C. A refused lookup leaves the number as it was.
abbrev pub offset_after : Result (Unit {0}) Refusal → (at before : ℕ) → ℕ
offset_after (Ok tt) at before = tag_length * at
offset_after (Err r) at before = before
