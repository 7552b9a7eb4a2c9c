-- What the theory asks of an overlap test, and nothing else about windows: windows come in order of their offsets,
-- so a window that overlaps a later one overlaps all between the two.
-- Vocabulary: IntervalOrder.
use Rattle.std.specs.Prelude.{ℕ, ◌<◌, Bool, true, false, ◌≡◌}

pub record IntervalOrder (n : ℕ) (overlaps : ℕ → ℕ → Bool) : Type 0 where
  pub symmetric : (u v : ℕ) → overlaps u v ≡ overlaps v u
  pub irreflexive : (v : ℕ) → overlaps v v ≡ false
  pub between : (u v w : ℕ) → u < v → v < w → w < n → overlaps u w ≡ true → overlaps u v ≡ true
