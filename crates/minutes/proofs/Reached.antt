-- The one test of overlap and the last of a window: against the end of u it fails for the windows that stand behind the last of u, and for
-- no others, those before u among them.
-- Vocabulary: reached, asked_reached, behind_last, not_behind, asked_behind, asked_near.
-- Assumes nothing.
use Prim.Native.Nat.{ℕ, ◌+◌, ◌≤◌, ◌<◌}
use mathlib.Core.{Bool.Bool, Bool.true, Bool.false, Bool.not, Path.◌≡◌, Path.sym, Path.◌∙◌, Logic.⊎_elim, List.List}
use native.Mathlib.Omega.{arith}
use borrow.Author.Tests.{leb-false, not-true, not-false}
use Rattle.sequences.proofs.Tests.{lt_or_ge, true_false_absurd}
use Rattle.interval_graph.specs.Order.{IntervalOrder}
use Rattle.interval_graph.proofs.Last.{last_ge, overlap_last, last_overlap}
use Rattle.plan.specs.declared.windows.Window.{Window}
use Rattle.plan.specs.File.{window_count, minimum_handover, window_at, end_of}
use Rattle.plan.specs.Validation.{AcceptedPlan}
use Rattle.plan.proofs.Acceptance.{accepted_sound, offsets_sorted}
use Rattle.plan.proofs.Counted.{needed_least}
use Rattle.overlap.specs.Overlap.{overlaps, margin_reaches}
use Rattle.overlap.proofs.Overlap.{overlaps_in_order}
use Rattle.overlap.proofs.InOrder.{interval_order}
use Rattle.minutes.specs.Tables.{last_of}

-- The test on the end of the window at u and the offset of the one at v.
abbrev pub reached : List ℕ → ℕ → ℕ → Bool
reached file u v = margin_reaches (minimum_handover file) (end_of (window_at file u)) (window_at file v).offset

-- It was put to what was read of the two.
pub asked_reached : (file : List ℕ) (u v minimum end : ℕ) (w : Window) (asked : Bool) → minimum ≡ minimum_handover file →
    end ≡ end_of (window_at file u) → w ≡ window_at file v → asked ≡ margin_reaches minimum end w.offset → reached file u v ≡ asked
asked_reached file u v minimum end w asked m e r a = sym (rw (m, e, r) at a)

module _ (file : List ℕ) (ok : AcceptedPlan file) (u : ℕ) (own : u < window_count file) where
  order : IntervalOrder (window_count file) (overlaps file)
  order = interval_order file ok

  pub behind_last : (v : ℕ) → v < window_count file → reached file u v ≡ false → last_of file u < v
  unfolding margin_reaches last_of
  behind_last v within past =
      ⊎_elim (λ h. ⊎_elim (λ l. l)
      (λ l. absurd (true_false_absurd _ (last_overlap order u v h l) (overlaps_in_order file ok u v h within ∙ past)))
      (lt_or_ge (last_of file u) v))
      (λ h. absurd (omega (
        arith,
        leb-false ((window_at file v).offset + minimum_handover file) (end_of (window_at file u)) past,
        needed_least file ok u own,
        offsets_sorted file (accepted_sound file ok) v u h own,
      ))) (lt_or_ge u v)

  pub not_behind : (v : ℕ) → v < window_count file → reached file u v ≡ true → v ≤ last_of file u
  unfolding last_of
  not_behind v within near =
      ⊎_elim (λ h. overlap_last order u v h within (overlaps_in_order file ok u v h within ∙ near))
      (λ h. omega (arith, last_ge order u)) (lt_or_ge u v)

  -- The same, where the test was put to what was read of the two.
  module _ (v : ℕ) (within : v < window_count file) (minimum end : ℕ) (w : Window) (asked : Bool) (m : minimum ≡ minimum_handover file)
      (e : end ≡ end_of (window_at file u)) (r : w ≡ window_at file v) (a : asked ≡ margin_reaches minimum end w.offset) where
    pub asked_behind : not asked ≡ true → last_of file u < v
    asked_behind t = behind_last v within (asked_reached file u v minimum end w asked m e r a ∙ not-true asked t)

    pub asked_near : not asked ≡ false → v ≤ last_of file u
    asked_near t = not_behind v within (asked_reached file u v minimum end w asked m e r a ∙ not-false asked t)
