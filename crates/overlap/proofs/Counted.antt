-- What overlap is in an accepted plan's file, by the number of its windows; and the bound of each of its windows.
-- Vocabulary: windows_order, bound_fits, own_offset.
-- Assumes nothing.
use Prim.Native.Nat.{ℕ, ◌<◌}
use mathlib.Core.List.{List}
use native.Mathlib.Omega.{arith}
use Rattle.interval_graph.specs.Order.{IntervalOrder}
use Rattle.plan.specs.File.{window_count, minimum_handover, window_at, end_of}
use Rattle.plan.specs.Validation.{AcceptedPlan}
use Rattle.plan.specs.AcceptedWindows.{AcceptedWindows}
use Rattle.plan.proofs.Acceptance.{accepted_sound}
use Rattle.overlap.specs.Overlap.{overlaps, bound_of}
use Rattle.overlap.proofs.InOrder.{interval_order}

pub windows_order : {file : List ℕ} {windows : ℕ} → AcceptedWindows file windows → IntervalOrder windows (overlaps file)
windows_order {file} p = rw p.counted (interval_order file p.accepted)

-- The bound of a window of an accepted plan.
module _ (file : List ℕ) (ok : AcceptedPlan file) (v : ℕ) (h : v < window_count file) where
  -- It fits 32 bits,
  pub bound_fits : bound_of (minimum_handover file) (window_at file v) < 4294967296
  unfolding bound_of
  bound_fits = omega (arith, (accepted_sound file ok).early v h)

  -- and the window begins before it.
  pub own_offset : (window_at file v).offset < bound_of (minimum_handover file) (window_at file v)
  unfolding bound_of end_of
  own_offset = omega (arith, (accepted_sound file ok).least, (accepted_sound file ok).long v h)
