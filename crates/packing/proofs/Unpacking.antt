-- The packing loses nothing: each field of 16 bits is found again by a quotient and a remainder, which are the shift and the
-- mask of include/poddreshi.h.
-- Assumes nothing.
use Prim.Native.Nat.{ℕ, ◌/◌, ◌%◌, ◌<◌}
use mathlib.Core.Path.{◌≡◌}
use native.Mathlib.Omega.{arith}
use Rattle.packing.specs.Packing.{packed}

module _ (kind first second third : ℕ) (k : kind < 65536) (a : first < 65536) (b : second < 65536) (c : third < 65536) where
  pub unpacked_kind : packed kind first second third % 65536 ≡ kind
  unpacked_kind = omega arith

  pub unpacked_first : packed kind first second third / 65536 % 65536 ≡ first
  unpacked_first = omega arith

  pub unpacked_second : packed kind first second third / 4294967296 % 65536 ≡ second
  unpacked_second = omega arith

  pub unpacked_third : packed kind first second third / 281474976710656 % 65536 ≡ third
  unpacked_third = omega arith
