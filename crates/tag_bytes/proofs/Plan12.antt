-- Paper 01's plan 12 as a tag file: its bytes come out of the definitions by computation, and so does which refusal comes first.
-- Assumes nothing.
use Prim.Native.Nat.{ℕ}
use mathlib.Core.{Path.◌≡◌, Path.refl, List.List, List.[], List.◌∷◌, List.◌++◌, List.flat_map}
use Rattle.sequences.specs.Table.{overwritten}
use Rattle.interval_graph.specs.Numbers.{numbers_of}
use Rattle.interval_graph.proofs.Plan12.{definitions, overlaps}
use Rattle.wire.specs.LittleEndian.{le16, bytes16}
use Rattle.std.specs.Prelude.{Ok, Err}
use Rattle.refusals.specs.Question.{refusal_by}
use Rattle.tag_bytes.specs.Fields.{field, tag_bytes, short_bytes}
use Rattle.tag_bytes.specs.Reading.{read_answer_of, short_read_answer_of}
use Rattle.tag_bytes.specs.Writing.{write_answer_of, short_write_answer_of, after_short_write}
use Rattle.tag_bytes.specs.TagFile.{tag_file, lookup_answer_of, looked_up, lookup_part, short_tag_file}

-- What a computation on tags opens.
unfoldable pub meaning : Unit {0}
unfolding definitions le16 bytes16 field tag_bytes short_bytes tag_file flat_map looked_up short_tag_file
meaning = tt

-- The tag file of the plan.
unfoldable pub tags : List ℕ
tags = tag_file (numbers_of 7 overlaps 12) 7

-- Its bytes: plan number, and then the component, depth, rank and rank of the last of each line of the listing.
pub plan_12_tags : tags ≡ (12 ∷ 0 ∷ 0 ∷ 0 ∷ 0 ∷ 0 ∷ 5 ∷ 0 ∷ 4 ∷ 0 ∷ []) ++ ((12 ∷ 0 ∷ 0 ∷ 0 ∷ 1 ∷ 0 ∷ 0 ∷ 0 ∷ 3 ∷ 0 ∷ [])
    ++ ((12 ∷ 0 ∷ 0 ∷ 0 ∷ 1 ∷ 0 ∷ 3 ∷ 0 ∷ 2 ∷ 0 ∷ []) ++ ((12 ∷ 0 ∷ 0 ∷ 0 ∷ 1 ∷ 0 ∷ 4 ∷ 0 ∷ 4 ∷ 0 ∷ [])
    ++ ((12 ∷ 0 ∷ 0 ∷ 0 ∷ 2 ∷ 0 ∷ 2 ∷ 0 ∷ 1 ∷ 0 ∷ []) ++ ((12 ∷ 0 ∷ 0 ∷ 0 ∷ 3 ∷ 0 ∷ 1 ∷ 0 ∷ 1 ∷ 0 ∷ [])
    ++ (12 ∷ 0 ∷ 1 ∷ 0 ∷ 0 ∷ 0 ∷ 0 ∷ 0 ∷ 0 ∷ 0 ∷ []))))))
unfolding meaning tags
plan_12_tags = refl

-- The tag at position 4 reads as the numbers of the listing's line.
pub plan_12_read : read_answer_of (lookup_part tags 4)
    ≡ Ok (record { plan = 12; component = 0; depth = 2; rank = 2; last = 1 })
unfolding meaning tags
plan_12_read = refl

-- One byte is no tag file, before there is no tag at a position; and a table without room comes before a field of 2,048.
pub length_first : lookup_answer_of (0 ∷ []) 0 ≡ Err (refusal_by 9)
unfolding meaning
length_first = refl

pub room_first : write_answer_of (record { plan = 12; component = 2048; depth = 0; rank = 0; last = 0 }) [] ≡ Err (refusal_by 8)
unfolding meaning
room_first = refl

-- Its first two short tags; the second reads as four numbers.
pub plan_12_short : short_tag_file (numbers_of 7 overlaps 12) 2 ≡ (12 ∷ 0 ∷ 0 ∷ 0 ∷ 0 ∷ 0 ∷ 5 ∷ 0 ∷ []) ++ (12 ∷ 0 ∷ 0 ∷ 0 ∷ 1 ∷ 0 ∷ 0 ∷ 0 ∷ [])
unfolding meaning
plan_12_short = refl

pub short_read : short_read_answer_of (12 ∷ 0 ∷ 1 ∷ 0 ∷ 2 ∷ 0 ∷ 3 ∷ 4 ∷ []) ≡ Ok (record { plan = 12; component = 1; depth = 2; rank = 1027 })
unfolding meaning
short_read = refl

-- Ten bytes are no short tag, before a field of 2,048 is; that alone; and a table of seven bytes comes before it.
pub short_refusals : short_read_answer_of (12 ∷ 0 ∷ 0 ∷ 8 ∷ 0 ∷ 0 ∷ 0 ∷ 0 ∷ 0 ∷ 0 ∷ []) ∷ short_read_answer_of (12 ∷ 0 ∷ 0 ∷ 0 ∷ 0 ∷ 0 ∷ 0 ∷ 8 ∷ [])
    ∷ [] ≡ Err (refusal_by 9) ∷ Err (refusal_by 10) ∷ []
unfolding meaning
short_refusals = refl

pub short_room_first : short_write_answer_of (record { plan = 12; component = 0; depth = 0; rank = 2048 }) (0 ∷ 0 ∷ 0 ∷ 0 ∷ 0 ∷ 0 ∷ 0 ∷ [])
    ≡ Err (refusal_by 8)
unfolding meaning
short_room_first = refl

-- Eight bytes are written and the ninth stays.
pub short_written : after_short_write (Ok tt) (record { plan = 12; component = 1; depth = 2; rank = 1027 })
    (9 ∷ 9 ∷ 9 ∷ 9 ∷ 9 ∷ 9 ∷ 9 ∷ 9 ∷ 9 ∷ []) ≡ 12 ∷ 0 ∷ 1 ∷ 0 ∷ 2 ∷ 0 ∷ 3 ∷ 4 ∷ 9 ∷ []
unfolding meaning overwritten
short_written = refl
