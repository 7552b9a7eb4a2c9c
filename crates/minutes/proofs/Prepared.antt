-- What the offsets and bounds of an accepted plan say of overlap, and what the two searches in them find: parents and lasts.
-- Vocabulary: earlier_overlaps, offsets_do_not_fall, parent_found, Fingers, filling_past, last_found.
-- Assumes nothing.
use Prim.Native.Nat.{ℕ, ◌+◌, ◌≤◌, ◌<◌}
use mathlib.Core.{Bool.true, Bool.false, Path.◌≡◌, Path.sym, Path.◌∙◌, Logic.⊎_elim, List.List}
use native.Mathlib.Omega.{arith}
use native.Mathlib.Nat.{le_antisymm}
use lib.ListN.{length, get_or, set}
use lib.Dec.{ltb}
use borrow.Author.Tests.{lt-ltb, le-ltb}
use Rattle.sequences.proofs.Tests.{lt_or_ge, true_false_absurd}
use Rattle.sequences.proofs.Search.{least_unique}
use Rattle.sequences.proofs.Table.{Filling, filling_start, filling_turn}
use Rattle.interval_graph.specs.Tree.{last, parent}
use Rattle.interval_graph.proofs.Last.{last_cases, last_ge, overlap_last}
use Rattle.overlap.specs.Overlap.{overlaps}
use Rattle.plan.specs.Validation.{greatest_count}
use Rattle.plan.specs.AcceptedWindows.{AcceptedWindows}
use Rattle.plan.proofs.Acceptance.{accepted_sound, offsets_sorted}
use Rattle.overlap.proofs.InOrder.{overlaps_bound}
use Rattle.plan.proofs.Counted.{windows_few}
use Rattle.overlap.proofs.Counted.{windows_order, bound_fits, own_offset}
use Rattle.minutes.specs.Tables.{offset_at, bound_at, parent_of, last_of}
use Rattle.minutes.specs.Passes.{filling, Prepared, FirstPast, Sorted, LastBefore}

-- No window before `finger` overlaps one from v on.
abbrev Behind : List ℕ → ℕ → ℕ → ℕ → Type 0
Behind file windows finger v = (u w : ℕ) → u < finger → u < w → v ≤ w → w < windows → overlaps file u w ≡ false

-- The two fingers of the parent table before a position: the parent table is filled, and nothing behind the left finger overlaps
-- what is to come.
pub record Fingers (file : List ℕ) (windows : ℕ) (parents₀ parents : List ℕ) (finger position : ℕ) : Type 0 where
  pub left : finger ≤ position
  pub behind : Behind file windows finger position
  pub filling : Filling (parent_of file) windows parents₀ parents position

module _ {file : List ℕ} {windows : ℕ} (plan : AcceptedWindows file windows) where
  -- For u before v: they overlap exactly if the offset of v lies before the bound of u.
  earlier_overlaps : (u v : ℕ) → u < v → v < windows → overlaps file u v ≡ ltb (offset_at file v) (bound_at file u)
  unfolding offset_at bound_at
  earlier_overlaps u v h within = overlaps_bound file plan.accepted u v h (omega (arith, plan.counted))

  bounded_past : (u v : ℕ) → u < v → v < windows → offset_at file v < bound_at file u → overlaps file u v ≡ true
  bounded_past u v h within g = earlier_overlaps u v h within ∙ lt-ltb _ _ g

  bounded_before : (u v : ℕ) → u < v → v < windows → bound_at file u ≤ offset_at file v → overlaps file u v ≡ false
  bounded_before u v h within g = earlier_overlaps u v h within ∙ le-ltb _ _ g

  offsets_do_not_fall : (i j : ℕ) → i ≤ j → j < windows → offset_at file i ≤ offset_at file j
  unfolding offset_at
  offsets_do_not_fall i j le within = offsets_sorted file (accepted_sound file plan.accepted) i j le (omega (arith, plan.counted))

  module _ (finger v r : ℕ) (within : v < windows) (behind : Behind file windows finger v) (found : FirstPast (bound_at file) (offset_at file v) finger v r) where
    -- What the search passes over overlaps nothing from v on.
    behind_turn : Behind file windows r v
    behind_turn u w h uw vw wn =
        ⊎_elim (λ g. behind u w g uw vw wn)
        (λ g. bounded_before u w uw wn (omega (arith, found.before u g h, offsets_do_not_fall v w vw wn))) (lt_or_ge u finger)

    -- What it finds is the parent.
    parent_found : r ≡ parent_of file v
    unfolding parent_of parent
    parent_found =
        sym (least_unique (λ u. overlaps file u v) v r found.high (λ h. bounded_past r v h within (found.past h))
        (λ j h. behind_turn j v h (omega (arith, found.high)) (omega arith) within))

  pub fingers_turn : (parents₀ parents : List ℕ) (finger v r : ℕ) → windows ≤ length parents₀ → v < windows →
      FirstPast (bound_at file) (offset_at file v) finger v r → Fingers file windows parents₀ parents finger v →
      Fingers file windows parents₀ (set parents v r) r (v + 1)
  fingers_turn parents₀ parents finger v r room within found s =
      record {
        left = omega (arith, found.high);
        behind = λ u w h uw vw wn. behind_turn finger v r within s.behind found u w h uw (omega arith) wn;
        filling = filling_turn (parent_of file) windows parents₀ parents v r room within (parent_found finger v r within s.behind found) s.filling;
      }

  -- No bound lies past the number with which the table of offsets is filled up, so no search takes that for a window's offset.
  pub filling_past : (u : ℕ) → u < windows → bound_at file u ≤ filling
  unfolding bound_at
  filling_past u within = omega (arith, bound_fits file plan.accepted u (omega (arith, plan.counted)))

  -- A window begins before its bound.
  own_bound : (u : ℕ) → u < windows → offset_at file u < bound_at file u
  unfolding offset_at bound_at
  own_bound u within = own_offset file plan.accepted u (omega (arith, plan.counted))

module _ {file : List ℕ} {windows : ℕ} {offsets : List ℕ} (p : Prepared file windows offsets) where
  held : (k : ℕ) → k < windows → get_or offsets k 0 ≡ offset_at file k
  held = p.offsets_held.at

  pub prepared_do_not_fall : Sorted offsets greatest_count
  prepared_do_not_fall i j le within =
      ⊎_elim (λ h. omega (arith, held i (omega arith), held j h, offsets_do_not_fall p.plan i j le h)) (λ h. ⊎_elim
      (λ g. omega (arith, held i g, p.rest j h within, own_bound p.plan i g, filling_past p.plan i g))
      (λ g. omega (arith, p.rest i g (omega arith), p.rest j h within)) (lt_or_ge i windows)) (lt_or_ge j windows)

  module _ (u r : ℕ) (within : u < windows) (found : LastBefore offsets (bound_at file u) greatest_count r) where
    -- The search finds no window before its own, and none of what the table is filled up with.
    found_late : u ≤ r
    found_late =
        ⊎_elim
        (λ h. absurd (omega (arith, held u within, own_bound p.plan u within, found.past u h (omega (arith, windows_few p.plan)))))
        (λ h. h) (lt_or_ge r u)

    found_window : r < windows
    found_window =
        ⊎_elim (λ h. h) (λ h. absurd (omega (arith, found.before (omega arith), p.rest r h found.high, filling_past p.plan u within)))
        (lt_or_ge r windows)

    -- What it finds is the last.
    pub last_found : r ≡ last_of file u
    unfolding last_of
    last_found = rw (← p.plan.counted) (sym (le_antisymm upper lower))
      where
        farthest : ℕ
        farthest = last windows (overlaps file) u

        upper : farthest ≤ r
        upper =
            ⊎_elim (λ c. ⊎_elim (λ h. absurd (true_false_absurd _ c.2 (bounded_before p.plan u farthest c.0 c.1 (omega (
              arith,
              held farthest c.1,
              found.past farthest h (omega (arith, c.1, windows_few p.plan)),
            ))))) (λ h. h) (lt_or_ge r farthest)) (λ e. omega (arith, e, found_late)) (last_cases windows (overlaps file) u)

        lower : r ≤ farthest
        lower =
            ⊎_elim (λ h. overlap_last (windows_order p.plan) u r h found_window (bounded_past p.plan u r h found_window (omega
            (arith, held r found_window, found.before (omega arith))))) (λ h. omega (arith, last_ge (windows_order p.plan) u))
            (lt_or_ge u r)

pub fingers_start : (file : List ℕ) (windows : ℕ) (parents₀ : List ℕ) → Fingers file windows parents₀ parents₀ 0 0
fingers_start file windows parents₀ =
    record {
      left = omega arith;
      behind = λ u w h uw vw wn. absurd (omega arith);
      filling = filling_start (parent_of file) windows parents₀;
    }
