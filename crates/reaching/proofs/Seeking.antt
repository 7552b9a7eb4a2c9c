-- The searches for a window that does not overlap another, in an accepted plan.
-- Vocabulary: Seeking, Passing.
-- Assumes nothing.
use Prim.Native.Nat.{ℕ, suc, ◌+◌, ◌≤◌, ◌<◌}
use mathlib.Core.{Bool.true, Bool.false, Path.◌≡◌, Logic.⊎_elim, List.List}
use native.Mathlib.Omega.{arith}
use Rattle.sequences.proofs.Tests.{lt_or_ge}
use Rattle.interval_graph.proofs.Last.{last_ge}
use Rattle.plan.specs.File.{window_count}
use Rattle.plan.specs.Validation.{AcceptedPlan}
use Rattle.overlap.proofs.InOrder.{interval_order}
use Rattle.minutes.specs.Tables.{last_of}
use Rattle.minutes.proofs.Reached.{reached, behind_last, not_behind}
use Rattle.reaching.specs.Passes.{FirstApart}

-- All windows so far overlap `top`.
pub record Seeking (file : List ℕ) (from top at : ℕ) : Type 0 where
  pub low : from ≤ at
  pub high : at ≤ top
  pub before : (w : ℕ) → from ≤ w → w < at → top ≤ last_of file w

-- All windows so far are up to the last of `at`.
pub record Passing (file : List ℕ) (at to next : ℕ) : Type 0 where
  pub low : at < next
  pub high : next ≤ to
  pub near : next ≤ suc (last_of file at)

module _ (file : List ℕ) (ok : AcceptedPlan file) where
  own_last : (u : ℕ) → u ≤ last_of file u
  unfolding last_of
  own_last u = last_ge (interval_order file ok) u

  module _ (from top : ℕ) (window : top < window_count file) where
    module _ (at : ℕ) (s : Seeking file from top at) where
      module _ (within : at < top) where
        pub seeking_turn : reached file at top ≡ true → Seeking file from top (at + 1)
        seeking_turn t =
            record {
              low = omega (arith, s.low);
              high = omega arith;
              before = λ w l h. ⊎_elim (s.before w l) (λ g. let f : w ≡ at = omega arith in rw f near) (lt_or_ge w at);
            }
          where
            near : top ≤ last_of file at
            near = not_behind file ok at (omega arith) top window t

        pub seeking_found : reached file at top ≡ false → FirstApart file from top at
        seeking_found t =
            record { low = s.low; high = s.high; apart = λ h. behind_last file ok at (omega arith) top window t; before = s.before }

  module _ (at to : ℕ) (window : to < window_count file) (far : last_of file at < to) where
    pub at_window : at < to
    at_window = omega (arith, own_last at)

    pub passing_start : Passing file at to (at + 1)
    passing_start = record { low = omega arith; high = omega (arith, own_last at); near = omega (arith, own_last at) }

    module _ (next : ℕ) (s : Passing file at to next) where
      module _ (within : next < to) where
        pub passing_turn : reached file at next ≡ true → Passing file at to (next + 1)
        passing_turn t =
            let near = not_behind file ok at (omega (arith, s.low)) next (omega arith) t in
            record { low = omega (arith, s.low); high = omega arith; near = omega arith }

        pub passing_found : reached file at next ≡ false → next ≡ suc (last_of file at)
        passing_found t =
            let past = behind_last file ok at (omega (arith, s.low)) next (omega arith) t in
            omega (arith, s.near)
