-- Q-2: the laws of overlap with a minimum, the plans of before, and three windows of which one is shorter than the minimum.
-- Assumes nothing.
use Prim.Native.Nat.{◌+◌}
use mathlib.Core.{Bool.true, Bool.false, Path.◌≡◌, Path.refl, Path.sym, Path.◌∙◌, List.List, List.[], List.◌∷◌}
use native.Mathlib.Omega.{arith}
use borrow.Author.Tests.{leb-true, le-leb}
use Rattle.sequences.proofs.Tests.{true_false_absurd}
use Rattle.interval_graph.proofs.Plan12.{definitions}
use Rattle.plan.specs.{declared.windows.Window.Window, File.minimum_handover, File.window_at, File.end_of, File.file_of}
use Rattle.overlap.specs.Overlap.{overlaps, margin_reaches, shares_minute}
use Rattle.overlap.proofs.Plan12.{meaning}
use Rattle.plan.proofs.Acceptance.{accepted_sound}
use Rattle.overlap.proofs.Overlap.{overlaps_minimum, minimum_overlaps, overlaps_in_order, as_before}
use Rattle.overlap.proofs.InOrder.{interval_order}
use Rattle.minutes.specs.Tables.{parent_of, last_of}
use Rattle.numbering.specs.Tables.{component_of, depth_of, rank_of, last_rank_of, numbers_at}
use Rattle.path.specs.Chain.{chain_between}
use Rattle.neighbouring.specs.Neighbours.{neighbours_of}
use Rattle.demands.specs.Minimum.{MinimumOverlaps, MinimumOne, SameMinimumOne, OldRefused, NeedsLength}
use Rattle.demands.proofs.Calls.{sameness}

pub minimum_overlap : MinimumOverlaps
unfolding margin_reaches
minimum_overlap file ok =
    record {
      shared = λ u v. (overlaps_minimum file u v, λ h. minimum_overlaps file u v h.0 h.1);
      in_order = λ u v before within. let law = overlaps_in_order file ok u v before within in (
        λ t. leb-true ((window_at file v).offset + minimum_handover file) (end_of (window_at file u)) (sym law ∙ t),
        λ h. law ∙ le-leb ((window_at file v).offset + minimum_handover file) (end_of (window_at file u)) h,
      );
      ordered = interval_order file ok;
      long = (accepted_sound file ok).long;
      least = (accepted_sound file ok).least;
      most = (accepted_sound file ok).most;
    }

pub minimum_one : MinimumOne
unfolding parent_of last_of component_of depth_of rank_of last_rank_of numbers_at chain_between neighbours_of
minimum_one file one =
    let same : overlaps file ≡ shares_minute file = as_before file one in
    record {
      parents = λ v. rw same;
      lasts = λ v. rw same;
      components = λ v. rw same;
      depths = λ v. rw same;
      ranks = λ v. rw same;
      last_ranks = λ v. rw same;
      tags = λ v. rw same;
      chains = λ u v. rw same;
      counts = λ u v k. rw same (λ l. l, λ l. l);
      neighbours = λ v. rw same;
    }

pub same_minimum_one : SameMinimumOne
same_minimum_one first second ok ok' one one' =
    let law = (sameness first second ok ok').same in let same = as_before first one in let same' = as_before second one' in (
      λ e. ((law.0 e).count, rw (← same, ← same') (law.0 e).pairs),
      λ s. law.1 (record { count = s.0; pairs = rw (same, same') s.1 }),
    )

pub old_refused : OldRefused
old_refused file old ok = omega (arith, old, (accepted_sound file ok).whole)

-- The first and the third share 8 minutes, and the second has one alone.
abbrev shorter : List Window
shorter = record { offset = 0; length = 10 } ∷ record { offset = 1; length = 1 } ∷ record { offset = 2; length = 10 } ∷ []

pub needs_length : NeedsLength
unfolding definitions meaning
needs_length =
    let far : overlaps (file_of 0 5 shorter) 0 2 ≡ true = refl in let near : overlaps (file_of 0 5 shorter) 0 1 ≡ false = refl in (
      shorter,
      5,
      record {
        accepted = refl;
        passes = refl;
        out = λ order. true_false_absurd _ (order.between 0 1 2 (omega arith) (omega arith) (omega arith) far) near;
      },
    )
