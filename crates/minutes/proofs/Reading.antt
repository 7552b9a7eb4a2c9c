-- The offset and the bound of a window that was read, and the table of the offsets.
-- Assumes nothing.
use Prim.Native.Nat.{ℕ, ◌-◌, ◌≤◌, ◌<◌}
use mathlib.Core.{Path.◌≡◌, Path.refl, Path.◌∙◌, List.List}
use native.Mathlib.Omega.{arith}
use lib.ListN.{replicate, length-replicate, get_or-replicate}
use Rattle.sequences.specs.Table.{table, overwritten}
use Rattle.sequences.proofs.Table.{length_table, length_overwritten, overwritten_past, overwritten_holds}
use Rattle.plan.specs.declared.windows.Window.{Window}
use Rattle.plan.specs.File.{window_count, minimum_handover, window_at, end_of}
use Rattle.overlap.specs.Overlap.{bound_of}
use Rattle.plan.specs.Validation.{greatest_count, AcceptedPlan}
use Rattle.plan.specs.AcceptedWindows.{AcceptedWindows}
use Rattle.plan.proofs.Counted.{windows_few, minimum_within}
use Rattle.overlap.proofs.Counted.{bound_fits}
use Rattle.minutes.specs.Tables.{offset_at, bound_at}
use Rattle.minutes.specs.Passes.{filling, Prepared}

-- The end and the minimum of a window: neither difference lies below 0, and what they give is the bound, which fits 32 bits.
module _ (file : List ℕ) (v : ℕ) (ok : AcceptedPlan file) (h : v < window_count file) where
  pub bound_formed : (minimum_handover file - 1 ≤ end_of (window_at file v)) × (1 ≤ minimum_handover file)
      × (end_of (window_at file v) - (minimum_handover file - 1) < 4294967296)
  unfolding bound_of
  bound_formed = ((minimum_within file ok v h).1, (minimum_within file ok v h).0, bound_fits file ok v h)

  -- What was read of them may be written down first.
  pub bound_read : (w : Window) (end minimum : ℕ) → w ≡ window_at file v → end ≡ end_of w → minimum ≡ minimum_handover file →
      end - (minimum - 1) ≡ bound_at file v
  unfolding bound_at bound_of
  bound_read w end minimum same ends read = rw (ends, same, read)

-- The table of offsets that the pass leaves, where it was full of the filling before.
pub prepared_read : (file : List ℕ) (windows : ℕ) (offsets : List ℕ) → AcceptedWindows file windows →
    offsets ≡ overwritten (replicate greatest_count filling) (table (offset_at file) windows) → Prepared file windows offsets
prepared_read file windows offsets p e = filled greatest_count (windows_few p) e refl
  where
    filled : (n : ℕ) → windows ≤ n → offsets ≡ overwritten (replicate n filling) (table (offset_at file) windows) → n ≡ greatest_count →
        Prepared file windows offsets
    filled n room written size =
        record {
          plan = p;
          offsets_held = overwritten_holds (offset_at file) windows (replicate n filling) offsets (omega
              (arith, length-replicate {A = ℕ} n filling)) written;
          long = rw written (omega (
            arith,
            size,
            length_overwritten (replicate n filling) (table (offset_at file) windows) (omega
                (arith, length-replicate {A = ℕ} n filling, length_table (offset_at file) windows)),
            length-replicate {A = ℕ} n filling,
          ));
          rest = λ k h within. rw written (overwritten_past (offset_at file) windows (replicate n filling) k 0 h
              ∙ get_or-replicate n k filling 0 (omega arith));
        }
