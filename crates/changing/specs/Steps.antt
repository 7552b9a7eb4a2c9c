-- What the pieces of the code hand on. Nothing here has to be believed: no public promise cites it.
-- Vocabulary: count_after, count_fits, place_of.
use Rattle.std.specs.Prelude.{ℕ, suc, ◌-◌, ◌*◌, Bool, ◌&&◌, List, leb}
use Rattle.sequences.specs.Search.{count}
use Rattle.plan.specs.File.{file_length, window_at}
use Rattle.tag_bytes.specs.Fields.{tag_length}
use Rattle.changing.specs.declared.records.Edit.{Edit}
use Rattle.changing.specs.declared.records.Edit.TheVariants.{Add, Withdraw}

-- How many windows there are after a change of so many.
unfoldable pub count_after : Edit → ℕ → ℕ
count_after (Add w) windows = suc windows
count_after (Withdraw at) windows = windows - 1

-- Whether a plan of so many windows fits one buffer, and its tag file the other.
unfoldable pub count_fits : (windows changed tags : ℕ) → Bool
count_fits windows changed tags = leb (file_length windows) changed && leb (tag_length * windows) tags

-- How many of the first windows have at most this offset.
unfoldable pub place_of : List ℕ → (windows offset : ℕ) → ℕ
place_of file windows offset = count (λ v. leb (window_at file v).offset offset) windows
