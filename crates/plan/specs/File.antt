-- Paper 01, "Plan file", and paper 02, Q-2. A file is its list of bytes.
-- Vocabulary: header_length, plan_number, window_count, minimum_place, minimum_handover; window_length, window_place, file_length, window_of,
-- window_at, end_of; header_bytes, window_bytes, file_of.
use Rattle.std.specs.Prelude.{ℕ, ◌+◌, ◌*◌, length, take, drop}
use mathlib.Core.List.{List, ◌++◌, flat_map}
use Rattle.wire.specs.LittleEndian.{le16, le32, bytes16, bytes32}
use Rattle.plan.specs.declared.windows.Window.{Window}

-- "Bytes 0 and 1 hold the plan number, bytes 2 and 3 the number of windows, n." Paper 02, Q-2: "The plan file gains a minimum handover:
-- four bytes after the number of windows, so the header has 8 bytes and a file 8 + 8 × n."
abbrev pub header_length : ℕ
header_length = 8

unfoldable pub plan_number : List ℕ → ℕ
plan_number file = le16 file 0

unfoldable pub window_count : List ℕ → ℕ
window_count file = le16 file 2

abbrev pub minimum_place : ℕ
minimum_place = 4

unfoldable pub minimum_handover : List ℕ → ℕ
minimum_handover file = le32 file minimum_place

-- "Then follow n pairs …: offset (4 bytes), length (4 bytes), in minutes." Paper 02, Q-8: "The unit is agreed outside the file": a minute,
-- here and in all that follows, is the plan's unit of time, which may be a second.
abbrev pub window_length : ℕ
window_length = 8

-- Where the part of the window at a position begins,
abbrev pub window_place : ℕ → ℕ
window_place v = header_length + window_length * v

-- and so how many bytes a file with n windows has.
abbrev pub file_length : ℕ → ℕ
file_length n = window_place n

unfoldable pub window_of : List ℕ → Window
window_of part = record { offset = le32 part 0; length = le32 part 4 }

-- "Each pair is read from its own eight-byte part of the file … A window is known by its position in the file, from
-- 0."
unfoldable pub window_at : List ℕ → ℕ → Window
window_at file v = window_of (take window_length (drop (window_place v) file))

-- "The end of a window is offset + length": the true sum.
unfoldable pub end_of : Window → ℕ
end_of w = w.offset + w.length

-- The same bytes, written: the header, a window, and the file of a plan number, a minimum and a list of windows.
unfoldable pub header_bytes : (plan windows minimum : ℕ) → List ℕ
header_bytes plan windows minimum = bytes16 plan ++ bytes16 windows ++ bytes32 minimum

unfoldable pub window_bytes : Window → List ℕ
window_bytes w = bytes32 w.offset ++ bytes32 w.length

unfoldable pub file_of : (plan minimum : ℕ) → List Window → List ℕ
file_of plan minimum windows = header_bytes plan (length windows) minimum ++ flat_map window_bytes windows
