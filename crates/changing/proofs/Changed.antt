-- The changed file of any change: its number, its minimum, how long it is, and its windows, which are those of the changed list.
-- Assumes nothing.
use Prim.Native.Nat.{ℕ, zero, suc, ◌≤◌, ◌<◌}
use mathlib.Core.{Path.◌≡◌, Path.ap, Path.◌∙◌, List.List}
use native.Mathlib.Omega.{arith}
use lib.{ListN.length, ListN.get_or, Seq.ext_get_or}
use Rattle.sequences.proofs.Table.{length_table, get_or-table}
use Rattle.plan.specs.declared.windows.Window.{Window}
use Rattle.plan.specs.File.{file_length, plan_number, window_count, minimum_handover, window_at}
use Rattle.plan.specs.Validation.{offset_before}
use Rattle.plan.proofs.Written.{length-file_of, plan-file_of, count-file_of, minimum_file_of, window_file_of}
use Rattle.changing.specs.declared.records.Change.{Change}
use Rattle.changing.specs.Change.{windows_of, changed_windows, changed_file}

pub same_offset : {a b : Window} → a ≡ b → a.offset ≡ b.offset
same_offset e = ap (λ (w : Window). w.offset) e

-- The list of a file's windows, entry by entry.
pub length-windows_of : (file : List ℕ) → length (windows_of file) ≡ window_count file
unfolding windows_of
length-windows_of file = length_table (window_at file) (window_count file)

pub get_or-windows_of : (file : List ℕ) (v : ℕ) (d : Window) → v < window_count file → get_or (windows_of file) v d ≡ window_at file v
unfolding windows_of
get_or-windows_of file v d h = get_or-table (window_at file) (window_count file) v d h

module _ (file : List ℕ) (c : Change) where
  pub changed_number : plan_number (changed_file file c) ≡ c.plan
  unfolding changed_file
  changed_number = plan-file_of c.plan (minimum_handover file) (changed_windows file c.edit)

  pub changed_minimum : minimum_handover (changed_file file c) ≡ minimum_handover file
  unfolding changed_file
  changed_minimum = minimum_file_of c.plan (minimum_handover file) (changed_windows file c.edit)

  pub changed_count : window_count (changed_file file c) ≡ length (changed_windows file c.edit)
  unfolding changed_file
  changed_count = count-file_of c.plan (minimum_handover file) (changed_windows file c.edit)

  pub changed_whole : length (changed_file file c) ≡ file_length (window_count (changed_file file c))
  unfolding changed_file
  changed_whole =
      omega (
        arith,
        length-file_of c.plan (minimum_handover file) (changed_windows file c.edit),
        count-file_of c.plan (minimum_handover file) (changed_windows file c.edit),
      )

  pub changed_window : (v : ℕ) (d : Window) → v < length (changed_windows file c.edit) →
      window_at (changed_file file c) v ≡ get_or (changed_windows file c.edit) v d
  unfolding changed_file
  changed_window v d h = window_file_of c.plan (minimum_handover file) (changed_windows file c.edit) v d h

  -- All of them.
  pub changed_windows_lem : windows_of (changed_file file c) ≡ changed_windows file c.edit
  changed_windows_lem =
      let none : Window = record { offset = 0; length = 0 } in let f = changed_file file c in
      ext_get_or none (windows_of f) (changed_windows file c.edit) (length-windows_of f ∙ changed_count)
      (λ v h. let within : v < window_count f = omega (arith, length-windows_of f) in
      get_or-windows_of f v none within ∙ changed_window v none (omega (arith, changed_count)))

-- Offsets that do not fall from any window to the next pass question 6.
pub sorted_next : (file : List ℕ) → ((u : ℕ) → suc u < window_count file → (window_at file u).offset ≤ (window_at file (suc u)).offset) →
    (v : ℕ) → v < window_count file → offset_before file v ≤ (window_at file v).offset
unfolding offset_before
sorted_next file rises zero h = omega arith
sorted_next file rises (suc u) h = rises u h
