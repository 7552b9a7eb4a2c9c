-- Paper 01: "the window covers the minutes from its offset up to, not including, its end", and paper 02, Q-2: "Two windows overlap when
-- they share at least that many minutes", the plan's minimum handover.
-- Vocabulary: covers, shared_minutes, sharing, overlaps; shares_minute; margin_reaches, bound_of.
use Rattle.std.specs.Prelude.{ℕ, ◌+◌, ◌-◌, max, Bool, not, ◌&&◌, List, ltb, leb, eqb}
use Rattle.sequences.specs.Search.{count}
use Rattle.plan.specs.declared.windows.Window.{Window}
use Rattle.plan.specs.File.{minimum_handover, window_at, end_of}

unfoldable pub covers : Window → ℕ → Bool
covers w minute = leb w.offset minute && ltb minute (end_of w)

-- How many minutes two windows both cover. (None is past both ends.)
unfoldable pub shared_minutes : Window → Window → ℕ
shared_minutes u v = count (λ minute. covers u minute && covers v minute) (max (end_of u) (end_of v))

-- The windows of a file at two different positions share at least so many minutes.
unfoldable pub sharing : (minutes : ℕ) → List ℕ → ℕ → ℕ → Bool
sharing minutes file u v = not (eqb u v) && leb minutes (shared_minutes (window_at file u) (window_at file v))

unfoldable pub overlaps : List ℕ → ℕ → ℕ → Bool
overlaps file = sharing (minimum_handover file) file

-- Overlap as paper 01 has it, before there was a minimum: "Two different windows overlap when they share a minute."
unfoldable pub shares_minute : List ℕ → ℕ → ℕ → Bool
shares_minute file = sharing 1 file

-- What follows need not be believed: how overlap is computed, of which `overlaps_in_order` and `overlaps_bound` say that it is overlap.
-- Whether the end of a window less the offset of one behind it reaches the minimum.
unfoldable pub margin_reaches : (minimum end offset : ℕ) → Bool
margin_reaches minimum end offset = leb (offset + minimum) end

-- Where a later window must begin before, to share enough minutes with this one.
unfoldable pub bound_of : (minimum : ℕ) → Window → ℕ
bound_of minimum w = end_of w - (minimum - 1)
