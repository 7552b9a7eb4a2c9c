-- The pass that counts the windows with at most an offset.
-- Vocabulary: place_none, place_more, place_kept, place_few; Counted, counted_end.
-- Assumes nothing.
use Prim.Native.Nat.{ℕ, ◌+◌, ◌≤◌, ◌<◌}
use mathlib.Core.{Path.◌≡◌, Path.refl, List.List}
use native.Mathlib.{Omega.arith, Numerals.add-one}
use lib.Dec.{leb}
use borrow.Author.Tests.{le-leb, lt-leb}
use Rattle.sequences.specs.Search.{count}
use Rattle.sequences.proofs.Search.{count_true, count_false, count_le}
use Rattle.plan.specs.File.{window_at}
use Rattle.changing.specs.Steps.{place_of}

module _ (file : List ℕ) (v offset : ℕ) where
  pub place_more : (window_at file v).offset ≤ offset → place_of file (v + 1) offset ≡ place_of file v offset + 1
  unfolding place_of
  place_more passes =
      rw (add-one v) (omega (arith, count_true (λ u. leb (window_at file u).offset offset) v (le-leb (window_at file v).offset offset passes)))

  pub place_kept : offset < (window_at file v).offset → place_of file (v + 1) offset ≡ place_of file v offset
  unfolding place_of
  place_kept fails = rw (add-one v) (count_false (λ u. leb (window_at file u).offset offset) v (lt-leb (window_at file v).offset offset fails))

  pub place_few : place_of file v offset ≤ v
  unfolding place_of
  place_few = count_le (λ u. leb (window_at file u).offset offset) v

pub place_none : (file : List ℕ) (offset : ℕ) → place_of file 0 offset ≡ 0
unfolding place_of count
place_none file offset = refl

pub ruleset placing = (place_none, place_more, place_kept, place_few)

-- The same as one fact, before a position.
pub record Counted (file : List ℕ) (windows offset place position : ℕ) : Type 0 where
  pub within : position ≤ windows
  pub so_far : place ≡ place_of file position offset

pub counted_end : (file : List ℕ) (windows offset place position : ℕ) → windows ≤ position → Counted file windows offset place position →
    place ≡ place_of file windows offset
counted_end file windows offset place position done s = let e : position ≡ windows = omega (arith, s.within) in rw e at s.so_far
