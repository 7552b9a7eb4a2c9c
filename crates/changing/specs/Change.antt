-- Paper 02, Q-6: "A change is a record: the new plan number and what is to be done, which is either a window to add (offset and length)
-- or a position to withdraw."
-- Vocabulary: windows_of, added_place, inserted_at, removed_at, changed_windows, changed_file, adding, withdrawing.
use Rattle.std.specs.Prelude.{ℕ, suc, List, ◌∷◌, ◌++◌, take, drop, leb}
use Rattle.sequences.specs.{Search.count, Table.table}
use Rattle.plan.specs.declared.windows.Window.{Window}
use Rattle.plan.specs.File.{window_count, minimum_handover, window_at, file_of}
use Rattle.changing.specs.declared.records.Edit.{Edit}
use Rattle.changing.specs.declared.records.Edit.TheVariants.{Add, Withdraw}
use Rattle.changing.specs.declared.records.Change.{Change}

-- The windows of a plan file, in order of position.
unfoldable pub windows_of : List ℕ → List Window
windows_of file = table (window_at file) (window_count file)

-- "an added window goes behind all with the same or a smaller offset": its position is the number of these.
unfoldable pub added_place : List ℕ → Window → ℕ
added_place file w = count (λ v. leb (window_at file v).offset w.offset) (window_count file)

-- A list with one entry more, which stands at an index, and a list without the entry at an index.
unfoldable pub inserted_at : {A : Type 0} → ℕ → A → List A → List A
inserted_at at x l = take at l ++ (x ∷ drop at l)

unfoldable pub removed_at : {A : Type 0} → ℕ → List A → List A
removed_at at l = take at l ++ drop (suc at) l

-- The windows of "the changed plan".
unfoldable pub changed_windows : List ℕ → Edit → List Window
changed_windows file (Add w) = inserted_at (added_place file w) w (windows_of file)
changed_windows file (Withdraw at) = removed_at at (windows_of file)

-- Its file has "the new plan number", and the minimum handover stays.
unfoldable pub changed_file : List ℕ → Change → List ℕ
changed_file file c = file_of c.plan (minimum_handover file) (changed_windows file c.edit)

-- The two kinds of change, by their parts.
abbrev pub adding : (plan : ℕ) → Window → Change
adding plan w = record { plan = plan; edit = Add w }

abbrev pub withdrawing : (plan at : ℕ) → Change
withdrawing plan at = record { plan = plan; edit = Withdraw at }
