-- A plan with a window more: where the windows stand in it, and that it is accepted.
-- Vocabulary: place_le, place_before, place_behind, added_*.
-- Assumes nothing.
use Prim.Native.Nat.{ℕ, suc, ◌-◌, ◌≤◌, ◌<◌}
use mathlib.Core.{Bool.Bool, Bool.true, Path.◌≡◌, Path.ap, Path.◌∙◌, Logic.⊎_elim, List.List}
use native.Mathlib.Omega.{arith}
use lib.{ListN.length, Dec.leb}
use borrow.Author.Tests.{leb-true, leb-false, le-leb}
use Rattle.sequences.proofs.Tests.{truth, lt_or_ge}
use Rattle.sequences.proofs.Search.{count_le, count_within, count_behind}
use Rattle.plan.specs.declared.windows.Window.{Window}
use Rattle.plan.specs.File.{window_count, minimum_handover, window_at, end_of}
use Rattle.plan.specs.Validation.{greatest_count, greatest_end, AcceptedPlan}
use Rattle.plan.proofs.Acceptance.{Sound, accepted_sound, sound_accepted, offsets_sorted}
use Rattle.changing.specs.Change.{windows_of, added_place, changed_windows, changed_file, adding}
use Rattle.changing.proofs.Lists.{length_inserted, inserted_before, inserted_there, inserted_behind}
use Rattle.changing.proofs.Changed.{same_offset, length-windows_of, get_or-windows_of, changed_minimum, changed_count, changed_whole}
use Rattle.changing.proofs.Changed.{changed_window, sorted_next}

module _ (file : List ℕ) (w : Window) where
  pub place_le : added_place file w ≤ window_count file
  unfolding added_place
  place_le = count_le (λ v. leb (window_at file v).offset w.offset) (window_count file)

  -- In an accepted plan those with the same or a smaller offset stand before its place, and all others behind.
  module _ (ok : AcceptedPlan file) where
    passes_before : (i j : ℕ) → i ≤ j → j < window_count file → leb (window_at file j).offset w.offset ≡ true →
        leb (window_at file i).offset w.offset ≡ true
    passes_before i j le h t =
        le-leb (window_at file i).offset w.offset
        (omega (arith, offsets_sorted file (accepted_sound file ok) i j le h, leb-true (window_at file j).offset w.offset t))

    pub place_before : (u : ℕ) → u < added_place file w → (window_at file u).offset ≤ w.offset
    unfolding added_place
    place_before u h =
        let test : ℕ → Bool = λ v. leb (window_at file v).offset w.offset in
        let n = window_count file in let within : u < n = omega (arith, count_le test n) in
        ⊎_elim (λ t. leb-true _ _ t) (λ t. absurd (omega (arith, count_behind test n passes_before u within t))) (truth (test u))

    pub place_behind : (u : ℕ) → added_place file w ≤ u → u < window_count file → w.offset < (window_at file u).offset
    unfolding added_place
    place_behind u h within =
        let test : ℕ → Bool = λ v. leb (window_at file v).offset w.offset in
        ⊎_elim (λ t. absurd (omega (arith, count_within test (window_count file) passes_before u within t))) (λ t. leb-false _ _ t)
        (truth (test u))

module _ (file : List ℕ) (plan : ℕ) (w : Window) where
  many : length (changed_windows file (adding plan w).edit) ≡ suc (window_count file)
  unfolding changed_windows
  many = length_inserted (added_place file w) (windows_of file) w ∙ ap suc (length-windows_of file)

  pub added_count : window_count (changed_file file (adding plan w)) ≡ suc (window_count file)
  added_count = changed_count file (adding plan w) ∙ many

  room : added_place file w ≤ length (windows_of file)
  room = omega (arith, place_le file w, length-windows_of file)

  -- The windows before its place, itself, and those behind.
  pub added_before : (v : ℕ) → v < added_place file w → window_at (changed_file file (adding plan w)) v ≡ window_at file v
  unfolding changed_windows
  added_before v h =
      let within : v < window_count file = omega (arith, place_le file w) in
      changed_window file (adding plan w) v w (omega (arith, many))
      ∙ (inserted_before (added_place file w) (windows_of file) room w w v h ∙ get_or-windows_of file v w within)

  pub added_there : (v : ℕ) → v ≡ added_place file w → window_at (changed_file file (adding plan w)) v ≡ w
  unfolding changed_windows
  added_there v e =
      rw e (changed_window file (adding plan w) (added_place file w) w (omega (arith, many, place_le file w))
      ∙ inserted_there (added_place file w) (windows_of file) room w w)

  pub added_behind : (v u : ℕ) → v ≡ suc u → added_place file w ≤ u → u < window_count file →
      window_at (changed_file file (adding plan w)) v ≡ window_at file u
  unfolding changed_windows
  added_behind v u e h within =
      rw e (changed_window file (adding plan w) (suc u) w (omega (arith, many))
      ∙ (inserted_behind (added_place file w) (windows_of file) room w w u h ∙ get_or-windows_of file u w within))

  -- What holds of the added window and of all others holds of each window of the changed plan.
  each_window : (P : Window → Type 0) → P w → ((u : ℕ) → u < window_count file → P (window_at file u)) →
      (v : ℕ) → v < window_count (changed_file file (adding plan w)) → P (window_at (changed_file file (adding plan w)) v)
  each_window P new old v h =
      let at = added_place file w in
      ⊎_elim (λ l. rw (added_before v l) (old v (omega (arith, place_le file w))))
      (λ l. ⊎_elim (λ g. let u : ℕ = v - 1 in let within : u < window_count file = omega (arith, added_count) in
      rw (added_behind v u (omega arith) (omega arith) within) (old u within)) (λ g. rw (added_there v (omega arith)) new) (lt_or_ge at v))
      (lt_or_ge v at)

  module _ (ok : AcceptedPlan file) (few : window_count file < greatest_count) (long : minimum_handover file ≤ w.length)
      (early : end_of w ≤ greatest_end) where
    -- Offsets do not fall from any window to the next.
    rises : (u : ℕ) → suc u < window_count (changed_file file (adding plan w)) →
        (window_at (changed_file file (adding plan w)) u).offset ≤ (window_at (changed_file file (adding plan w)) (suc u)).offset
    rises u h =
        let at = added_place file w in let n = window_count file in let s = accepted_sound file ok in
        let within : u < n = omega (arith, added_count) in
        ⊎_elim (λ l. ⊎_elim (λ g. omega (
          arith,
          same_offset (added_before u l),
          same_offset (added_before (suc u) g),
          offsets_sorted file s u (suc u) (omega arith) (omega (arith, place_le file w)),
        )) (λ g. omega (arith, same_offset (added_before u l), same_offset (added_there (suc u) (omega arith)), place_before file w ok u l))
        (lt_or_ge (suc u) at)) (λ l. ⊎_elim (λ g. omega (
          arith,
          same_offset (added_behind u (u - 1) (omega arith) (omega arith) (omega arith)),
          same_offset (added_behind (suc u) u (omega arith) l within),
          offsets_sorted file s (u - 1) u (omega arith) within,
        )) (λ g. omega (
          arith,
          same_offset (added_there u (omega arith)),
          same_offset (added_behind (suc u) u (omega arith) l within),
          place_behind file w ok u l within,
        )) (lt_or_ge at u)) (lt_or_ge u at)

    pub added_sound : Sound (changed_file file (adding plan w))
    added_sound =
        let s = accepted_sound file ok in let same = changed_minimum file (adding plan w) in
        record {
          few = omega (arith, added_count);
          least = omega (arith, same, s.least);
          most = omega (arith, same, s.most);
          whole = changed_whole file (adding plan w);
          long = rw same (each_window (λ x. minimum_handover file ≤ x.length) long s.long);
          early = each_window (λ x. end_of x ≤ greatest_end) early s.early;
          sorted = sorted_next (changed_file file (adding plan w)) rises;
        }

    pub added_accepted : AcceptedPlan (changed_file file (adding plan w))
    added_accepted = sound_accepted (changed_file file (adding plan w)) added_sound
