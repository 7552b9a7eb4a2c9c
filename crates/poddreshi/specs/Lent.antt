-- What the calls of the C interface on plan files leave in what is lent to them, where that is not said by the call below in the
-- same words.
-- Vocabulary: built_in, changed_in, margin_after.
use Rattle.std.specs.Prelude.{ℕ, List, length, ℤ, Result, Ok, Err}
use Rattle.refusals.specs.declared.refusal.Refusal.{Refusal}
use Rattle.numbering.specs.declared.filling.Built.{Built}
use Rattle.tree.specs.Build.{build_answer_of}
use Rattle.changing.specs.{declared.records.Change.Change, Questions.change_answer_of}

-- What build answers for a file, the five tables and the tag file that are lent to it.
abbrev pub built_in : (file parents components depths ranks last_ranks tags : List ℕ) → Result Built Refusal
built_in file parents components depths ranks last_ranks tags =
    build_answer_of file (length parents) (length components) (length depths) (length ranks) (length last_ranks) (length tags)

-- What a change of a plan file is answered with the two buffers that are lent to it.
abbrev pub changed_in : List ℕ → Change → (changed tags : List ℕ) → Result Built Refusal
changed_in file c changed tags = change_answer_of file c (length changed) (length tags)

-- The margin, in its lent place. A refusal leaves the number as it was.
abbrev pub margin_after : Result ℤ Refusal → (before : ℤ) → ℤ
margin_after (Ok m) before = m
margin_after (Err r) before = before
