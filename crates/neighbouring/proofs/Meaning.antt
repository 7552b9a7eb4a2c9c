-- What the answer says of an accepted plan, in the paper's words: the neighbours are the windows that overlap, and never the window itself.
-- Assumes nothing.
use Prim.Native.Nat.{ℕ, ◌<◌}
use mathlib.Core.{Bool.true, Path.◌≡◌, Logic.◌↔◌, List.List, List.Memᴰ}
use native.Mathlib.Omega.{arith}
use Rattle.sequences.proofs.Tests.{true_false_absurd}
use Rattle.sequences.proofs.Passing.{passing_sound, passing_complete}
use Rattle.plan.specs.File.{window_count}
use Rattle.plan.specs.Validation.{AcceptedPlan}
use Rattle.overlap.specs.Overlap.{overlaps}
use Rattle.overlap.proofs.InOrder.{interval_order}
use Rattle.neighbouring.specs.Neighbours.{neighbours_of}

-- A window is never its own neighbour.
pub neighbour_other : (file : List ℕ) → AcceptedPlan file → (at : ℕ) → Memᴰ at (neighbours_of file at) → ⊥
unfolding neighbours_of
neighbour_other file ok at m =
    true_false_absurd (overlaps file at at) (passing_sound (overlaps file at) 0 (window_count file) at m).2 ((interval_order file ok).irreflexive at)

-- The neighbours are the windows that overlap.
pub neighbour_iff_overlaps : (file : List ℕ) (at v : ℕ) → Memᴰ v (neighbours_of file at) ↔ ((v < window_count file) × (overlaps file at v ≡ true))
unfolding neighbours_of
neighbour_iff_overlaps file at v = (
  λ m. let s = passing_sound (overlaps file at) 0 (window_count file) v m in (omega (arith, s.1), s.2),
  λ h. passing_complete (overlaps file at) 0 (window_count file) v (omega arith) (omega arith) h.1,
)
