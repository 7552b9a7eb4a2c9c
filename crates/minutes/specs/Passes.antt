-- What the passes are handed and what the searches inside them find. Nothing here has to be believed: no public promise
-- cites it.
-- Vocabulary: filling, Prepared, FirstPast, Quartered, Sorted, LastBefore.
use Rattle.std.specs.Prelude.{ℕ, zero, suc, ◌*◌, ◌≤◌, ◌<◌, ◌≡◌, List, length, get_or}
use Rattle.sequences.specs.Table.{Holds}
use Rattle.plan.specs.Validation.{greatest_count, greatest_end}
use Rattle.plan.specs.AcceptedWindows.{AcceptedWindows}
use Rattle.minutes.specs.Tables.{offset_at}

-- The greatest number that an end may be (paper 02, Q-8), and so one that no bound lies past: `filling_past`.
abbrev pub filling : ℕ
filling = greatest_end

-- An accepted plan's file, how many windows it has, and its offsets as a table as long as any plan's, which is filled up
-- with that number.
pub record Prepared (file : List ℕ) (windows : ℕ) (offsets : List ℕ) : Type 0 where
  pub plan : AcceptedWindows file windows
  pub offsets_held : Holds offsets (offset_at file) windows
  pub long : length offsets ≡ greatest_count
  pub rest : (k : ℕ) → windows ≤ k → k < greatest_count → get_or offsets k 0 ≡ filling

-- r is the first position from `from` on whose bound lies past the offset, or `to`.
pub record FirstPast (bounds : ℕ → ℕ) (offset from to r : ℕ) : Type 0 where
  pub low : from ≤ r
  pub high : r ≤ to
  pub past : r < to → offset < bounds r
  pub before : (k : ℕ) → from ≤ k → k < r → bounds k ≤ offset

-- A number that can be quartered until 1 or 2 is left.
unfoldable pub fours : (rest times : ℕ) → ℕ
fours rest zero = rest
fours rest (suc times) = 4 * fours rest times

pub record Quartered (n : ℕ) : Type 0 where
  pub rest : ℕ
  pub times : ℕ
  pub few : rest ≤ 2
  pub whole : n ≡ fours rest times

-- The first n entries do not fall.
abbrev pub Sorted : List ℕ → ℕ → Type 0
Sorted l n = (i j : ℕ) → i ≤ j → j < n → get_or l i 0 ≤ get_or l j 0

-- r is the last of the first `size` positions whose offset lies before the bound, or 0.
pub record LastBefore (offsets : List ℕ) (bound size r : ℕ) : Type 0 where
  pub high : r < size
  pub before : 0 < r → get_or offsets r 0 < bound
  pub past : (k : ℕ) → r < k → k < size → bound ≤ get_or offsets k 0
