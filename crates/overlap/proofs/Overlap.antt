-- Laws of overlap. `shared_minutes` is the smaller end less the greater offset; in an accepted plan u before v overlap exactly if the
-- end of u less the offset of v reaches the minimum; and with minimum 1 two windows overlap exactly if some minute is covered by both.
-- Vocabulary: covers_minute, shared_minutes_lem, overlaps_minimum, minimum_overlaps, overlaps_in_order, touching_apart, as_before,
-- shares_covered.
-- Assumes nothing.
use Prim.Native.Nat.{ℕ, ◌+◌, ◌-◌, ◌≤◌, ◌<◌, min, max}
use mathlib.Core.Bool.{true, false, not, ◌&&◌}
use mathlib.Core.{Path.◌≡◌, Path.ap, Logic.⊎_elim, Logic.◌↔◌, Logic.◌≢◌, List.List}
use native.Mathlib.Omega.{arith}
use lib.Dec.{ltb, leb, eqb}
use borrow.Author.Tests.{ltb-true, leb-true, eqb-false, lt-ltb, le-leb, ne_eqb, not-true}
use Rattle.sequences.proofs.{Search.count_range, Tests.truth, Tests.and_left, Tests.and_right, Tests.and_intro, Tests.iff_equal}
use Rattle.plan.specs.{declared.windows.Window.Window, File.window_count, File.minimum_handover, File.window_at, File.end_of}
use Rattle.plan.specs.Validation.{AcceptedPlan}
use Rattle.plan.proofs.Acceptance.{Sound, accepted_sound, offsets_sorted}
use Rattle.overlap.specs.Overlap.{covers, shared_minutes, sharing, overlaps, shares_minute, margin_reaches}

-- A window covers the minutes from its offset up to, not including, its end.
pub covers_minute : (w : Window) (m : ℕ) → covers w m ≡ true → (w.offset ≤ m) × (m < end_of w)
unfolding covers
covers_minute w m t =
    (leb-true _ _ (and_left (leb w.offset m) (ltb m (end_of w)) t), ltb-true _ _ (and_right (leb w.offset m) (ltb m (end_of w)) t))

pub minute_covers : (w : Window) (m : ℕ) → w.offset ≤ m → m < end_of w → covers w m ≡ true
unfolding covers
minute_covers w m l r = and_intro _ _ (le-leb _ _ l) (lt-ltb _ _ r)

-- The test fails outside.
outside : (u v : Window) (m : ℕ) → ((u.offset ≤ m) × (m < end_of u) → (v.offset ≤ m) × (m < end_of v) → ⊥) → (covers u m && covers v m) ≡ false
outside u v m apart =
    ⊎_elim (λ t. absurd (apart (covers_minute u m (and_left _ _ t)) (covers_minute v m (and_right (covers u m) _ t)))) (λ t. t)
    (truth (covers u m && covers v m))

-- The minutes that two windows share run from the greater offset to the smaller end.
pub shared_minutes_lem : (u v : Window) → shared_minutes u v ≡ min (end_of u) (end_of v) - max u.offset v.offset
unfolding shared_minutes
shared_minutes_lem u v =
    count_range (λ m. covers u m && covers v m) (max u.offset v.offset) (min (end_of u) (end_of v)) (max (end_of u) (end_of v))
    (λ m h. outside u v m (λ a b. omega arith))
    (λ m l r. and_intro _ _ (minute_covers u m (omega arith) (omega arith)) (minute_covers v m (omega arith) (omega arith)))
    (λ m h. outside u v m (λ a b. omega arith)) (omega arith)

-- Two windows share so many minutes exactly if they are two and as many are covered by both.
pub sharing_minutes : (minutes : ℕ) (file : List ℕ) (u v : ℕ) → sharing minutes file u v ≡ true →
    (u ≢ v) × (minutes ≤ shared_minutes (window_at file u) (window_at file v))
unfolding sharing
sharing_minutes minutes file u v t =
    (λ e. eqb-false u v (not-true _ (and_left (not (eqb u v)) _ t)) e, leb-true _ _ (and_right (not (eqb u v)) _ t))

pub minutes_sharing : (minutes : ℕ) (file : List ℕ) (u v : ℕ) → u ≢ v → minutes ≤ shared_minutes (window_at file u) (window_at file v) →
    sharing minutes file u v ≡ true
unfolding sharing
minutes_sharing minutes file u v other h = rw (ne_eqb u v other) (le-leb _ _ h)

-- They overlap exactly if these are at least the plan's minimum.
pub overlaps_minimum : (file : List ℕ) (u v : ℕ) → overlaps file u v ≡ true →
    (u ≢ v) × (minimum_handover file ≤ shared_minutes (window_at file u) (window_at file v))
unfolding overlaps
overlaps_minimum file = sharing_minutes (minimum_handover file) file

pub minimum_overlaps : (file : List ℕ) (u v : ℕ) → u ≢ v → minimum_handover file ≤ shared_minutes (window_at file u) (window_at file v) →
    overlaps file u v ≡ true
unfolding overlaps
minimum_overlaps file = minutes_sharing (minimum_handover file) file

-- In an accepted plan, for u before v: the end of u less the offset of v reaches the minimum. Question 4 is what this rests
-- on: v is at least as long as the minimum, so that the minutes shared do not run out at the end of v.
pub overlaps_in_order : (file : List ℕ) → AcceptedPlan file → (u v : ℕ) → u < v → v < window_count file →
    overlaps file u v ≡ margin_reaches (minimum_handover file) (end_of (window_at file u)) (window_at file v).offset
unfolding margin_reaches end_of
overlaps_in_order file ok u v before within =
    iff_equal (overlaps file u v) (leb full (end_of a))
    (λ t. le-leb full (end_of a) (omega (arith, (overlaps_minimum file u v t).1, shared_minutes_lem a b, s.least)))
    (λ t. minimum_overlaps file u v (omega arith) (omega (arith, leb-true full (end_of a) t, shared_minutes_lem a b, s.long v within, sorted)))
  where
    a : Window
    a = window_at file u

    b : Window
    b = window_at file v

    full : ℕ
    full = b.offset + minimum_handover file

    s : Sound file
    s = accepted_sound file ok

    sorted : a.offset ≤ b.offset
    sorted = offsets_sorted file s u v (omega arith) within

-- Windows of an accepted plan that touch do not overlap: end of u equal to offset of v is no minute shared.
pub touching_apart : (file : List ℕ) → AcceptedPlan file → (u v : ℕ) → end_of (window_at file u) ≡ (window_at file v).offset →
    overlaps file u v ≡ false
touching_apart file ok u v e =
    let least = (accepted_sound file ok).least in
    ⊎_elim (λ t. absurd (omega (arith, least, (overlaps_minimum file u v t).1, shared_minutes_lem (window_at file u) (window_at file v)))) (λ t. t)
    (truth (overlaps file u v))

-- With minimum 1 overlap is what it was.
pub as_before : (file : List ℕ) → minimum_handover file ≡ 1 → overlaps file ≡ shares_minute file
unfolding overlaps shares_minute
as_before file e = ap (λ minutes. sharing minutes file) e

-- "Two different windows overlap when they share a minute": they are two, and some minute is covered by both.
pub shares_covered : (file : List ℕ) (u v : ℕ) →
    (shares_minute file u v ≡ true) ↔ ((u ≢ v) × ((m : ℕ) × (covers (window_at file u) m ≡ true) × (covers (window_at file v) m ≡ true)))
unfolding shares_minute
shares_covered file u v = (shares, meet)
  where
    a : Window
    a = window_at file u

    b : Window
    b = window_at file v

    shares : sharing 1 file u v ≡ true → (u ≢ v) × ((m : ℕ) × (covers a m ≡ true) × (covers b m ≡ true))
    shares t =
        let h : 1 ≤ shared_minutes a b = (sharing_minutes 1 file u v t).1 in
        let e : shared_minutes a b ≡ min (end_of a) (end_of b) - max a.offset b.offset = shared_minutes_lem a b in (
          (sharing_minutes 1 file u v t).0,
          (
            max a.offset b.offset,
            minute_covers a _ (omega arith) (omega arith),
            minute_covers b _ (omega arith) (omega arith),
          ),
        )

    meet : (u ≢ v) × ((m : ℕ) × (covers a m ≡ true) × (covers b m ≡ true)) → sharing 1 file u v ≡ true
    meet h =
        minutes_sharing 1 file u v h.0
        (omega (arith, shared_minutes_lem a b, covers_minute a h.1.0 h.1.1, covers_minute b h.1.0 h.1.2))
