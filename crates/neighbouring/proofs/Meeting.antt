-- Which windows of an accepted plan overlap one of them, as the code asks it: the search for its last, and the test on a window before it.
-- Vocabulary: Halving, halving_*, last_within, meets_earlier.
-- Assumes nothing.
use Prim.Native.Nat.{ℕ, ◌+◌, ◌≤◌, ◌<◌}
use mathlib.Core.{Bool.true, Bool.false, Path.◌≡◌, Path.◌∙◌, Logic.⊎_elim, List.List}
use native.Mathlib.{Omega.arith, Nat.le_antisymm}
use borrow.Author.Tests.{le-leb}
use Rattle.sequences.proofs.Tests.{lt_or_ge}
use Rattle.interval_graph.specs.Order.{IntervalOrder}
use Rattle.interval_graph.proofs.Last.{last_ge, last_below}
use Rattle.plan.specs.File.{window_count}
use Rattle.plan.specs.Validation.{greatest_count, AcceptedPlan}
use Rattle.plan.proofs.Acceptance.{Sound, accepted_sound}
use Rattle.plan.proofs.Counted.{needed_least}
use Rattle.overlap.specs.Overlap.{overlaps, margin_reaches}
use Rattle.overlap.proofs.Overlap.{overlaps_in_order}
use Rattle.overlap.proofs.InOrder.{interval_order}
use Rattle.minutes.specs.Tables.{last_of}
use Rattle.minutes.proofs.Reached.{reached, behind_last, not_behind}

-- The search for the last of u: a window that the test holds for, and one behind it that it does not, or the end of the plan.
pub record Halving (file : List ℕ) (u low high : ℕ) : Type 0 where
  pub some : low < high
  pub stop : high ≤ window_count file
  pub before : reached file u low ≡ true
  pub past : high < window_count file → reached file u high ≡ false

module _ (file : List ℕ) (ok : AcceptedPlan file) (u : ℕ) (own : u < window_count file) where
  order : IntervalOrder (window_count file) (overlaps file)
  order = interval_order file ok

  sound : Sound file
  sound = accepted_sound file ok

  pub last_within : (u ≤ last_of file u) × (last_of file u < window_count file) × (last_of file u < greatest_count)
  unfolding last_of
  last_within = (last_ge order u, last_below order u own, omega (arith, last_below order u own, sound.few))

  pub halving_start : (high : ℕ) → high ≡ window_count file → Halving file u u high
  unfolding margin_reaches
  halving_start high all =
      record { some = omega arith; stop = omega arith; before = le-leb _ _ (needed_least file ok u own); past = λ h. absurd (omega arith) }

  pub halving_found : (low high : ℕ) → high ≤ low + 1 → Halving file u low high → low ≡ last_of file u
  halving_found low high closed s =
      le_antisymm (not_behind file ok u own low (omega (arith, s.some, s.stop)) s.before) (⊎_elim
      (λ h. omega (arith, behind_last file ok u own high h (s.past h))) (λ h. omega (arith, last_within)) (lt_or_ge high (window_count file)))

  -- A window before u.
  pub meets_earlier : (v : ℕ) → v < u → overlaps file u v ≡ reached file v u
  meets_earlier v before = order.symmetric u v ∙ overlaps_in_order file ok v u before own
