-- A window read from the whole file, where it stands, is the one read from its own part, in every file: a byte past the end counts as 0 in
-- both.
-- Assumes nothing.
use Prim.Native.Nat.{ℕ, ◌+◌}
use mathlib.Core.{Path.◌≡◌, List.List}
use native.Mathlib.Omega.{arith}
use Rattle.wire.specs.LittleEndian.{le32}
use Rattle.wire.proofs.LittleEndian.{le32_part}
use Rattle.plan.specs.File.{window_length, window_place, window_of, window_at}

pub window_read : (file : List ℕ) (v offset length : ℕ) → offset ≡ le32 file (window_place v) → length ≡ le32 file (window_place v + 4) →
    record { offset = offset; length = length } ≡ window_at file v
unfolding window_at window_of
window_read file v offset length e f =
    let first = le32_part file (window_place v) window_length 0 (omega arith) in
    let second = le32_part file (window_place v) window_length 4 (omega arith) in
    let here : window_place v + 0 ≡ window_place v = omega arith in rw (e, f, first, second, here)
