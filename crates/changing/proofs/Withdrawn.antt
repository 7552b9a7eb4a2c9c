-- A plan with a window less: where the windows stand in it, and that it is accepted.
-- Vocabulary: withdrawn_*.
-- Assumes nothing.
use Prim.Native.Nat.{ℕ, suc, ◌≤◌, ◌<◌}
use mathlib.Core.{Path.◌≡◌, Path.refl, Path.◌∙◌, Logic.⊎_elim, List.List}
use native.Mathlib.Omega.{arith}
use lib.ListN.{length}
use Rattle.sequences.proofs.Tests.{lt_or_ge}
use Rattle.plan.specs.declared.windows.Window.{Window}
use Rattle.plan.specs.File.{window_count, minimum_handover, window_at, end_of}
use Rattle.plan.specs.Validation.{greatest_end, AcceptedPlan}
use Rattle.plan.proofs.Acceptance.{accepted_sound, sound_accepted, offsets_sorted}
use Rattle.changing.specs.Change.{windows_of, changed_windows, changed_file, withdrawing}
use Rattle.changing.proofs.Lists.{length_removed, removed_before, removed_behind}
use Rattle.changing.proofs.Changed.{same_offset, length-windows_of, get_or-windows_of, changed_minimum, changed_count, changed_whole}
use Rattle.changing.proofs.Changed.{changed_window, sorted_next}

module _ (file : List ℕ) (plan at : ℕ) (there : at < window_count file) where
  room : at ≤ length (windows_of file)
  room = omega (arith, length-windows_of file)

  many : suc (length (changed_windows file (withdrawing plan at).edit)) ≡ window_count file
  unfolding changed_windows
  many = length_removed at (windows_of file) (omega (arith, length-windows_of file)) ∙ length-windows_of file

  pub withdrawn_count : suc (window_count (changed_file file (withdrawing plan at))) ≡ window_count file
  withdrawn_count = omega (arith, changed_count file (withdrawing plan at), many)

  -- The windows before its place, and those behind.
  pub withdrawn_before : (v : ℕ) → v < at → window_at (changed_file file (withdrawing plan at)) v ≡ window_at file v
  unfolding changed_windows
  withdrawn_before v h =
      let d = window_at file v in
      changed_window file (withdrawing plan at) v d (omega (arith, many))
      ∙ (removed_before at (windows_of file) room d v h ∙ get_or-windows_of file v d (omega arith))

  pub withdrawn_behind : (v u : ℕ) → u ≡ suc v → at ≤ v → u < window_count file →
      window_at (changed_file file (withdrawing plan at)) v ≡ window_at file u
  unfolding changed_windows
  withdrawn_behind v u e h within =
      let d = window_at file v in
      rw e (changed_window file (withdrawing plan at) v d (omega (arith, many))
      ∙ (removed_behind at (windows_of file) room d v h ∙ get_or-windows_of file (suc v) d (omega arith)))

  -- What holds of all windows holds of each that stays.
  each_window : (P : Window → Type 0) → ((u : ℕ) → u < window_count file → P (window_at file u)) →
      (v : ℕ) → v < window_count (changed_file file (withdrawing plan at)) → P (window_at (changed_file file (withdrawing plan at)) v)
  each_window P old v h =
      ⊎_elim (λ l. rw (withdrawn_before v l) (old v (omega arith)))
      (λ l. let within : suc v < window_count file = omega (arith, withdrawn_count) in
      rw (withdrawn_behind v (suc v) refl l within) (old (suc v) within)) (lt_or_ge v at)

  module _ (ok : AcceptedPlan file) where
    -- Offsets do not fall from any window to the next.
    rises : (u : ℕ) → suc u < window_count (changed_file file (withdrawing plan at)) →
        (window_at (changed_file file (withdrawing plan at)) u).offset ≤ (window_at (changed_file file (withdrawing plan at)) (suc u)).offset
    rises u h =
        let s = accepted_sound file ok in let within : suc (suc u) < window_count file = omega (arith, withdrawn_count) in
        ⊎_elim (λ l. ⊎_elim (λ g. omega (
          arith,
          same_offset (withdrawn_before u l),
          same_offset (withdrawn_before (suc u) g),
          offsets_sorted file s u (suc u) (omega arith) (omega arith),
        )) (λ g. omega (
          arith,
          same_offset (withdrawn_before u l),
          same_offset (withdrawn_behind (suc u) (suc (suc u)) (omega arith) g within),
          offsets_sorted file s u (suc (suc u)) (omega arith) within,
        )) (lt_or_ge (suc u) at)) (λ l. omega (
          arith,
          same_offset (withdrawn_behind u (suc u) (omega arith) l (omega arith)),
          same_offset (withdrawn_behind (suc u) (suc (suc u)) (omega arith) (omega arith) within),
          offsets_sorted file s (suc u) (suc (suc u)) (omega arith) within,
        )) (lt_or_ge u at)

    pub withdrawn_accepted : AcceptedPlan (changed_file file (withdrawing plan at))
    withdrawn_accepted =
        let s = accepted_sound file ok in let same = changed_minimum file (withdrawing plan at) in
        sound_accepted (changed_file file (withdrawing plan at)) (record {
          few = omega (arith, withdrawn_count, s.few);
          least = omega (arith, same, s.least);
          most = omega (arith, same, s.most);
          whole = changed_whole file (withdrawing plan at);
          long = rw same (each_window (λ x. minimum_handover file ≤ x.length) s.long);
          early = each_window (λ x. end_of x ≤ greatest_end) s.early;
          sorted = sorted_next (changed_file file (withdrawing plan at)) rises;
        })
