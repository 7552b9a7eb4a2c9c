-- Two plans are the same exactly if they have equal n and every window's last is the same; and exactly if they have equal n and
-- every window's component, depth, rank and rank of the last are the same: "equal tags apart from the plan number say just
-- that".
-- Vocabulary: pairs_iff_overlaps, lasts_pairs, same_iff_numbers, compared; table_refused, table_counts, from_refused, from_passed, take_lasts, same_tables.
-- Assumes nothing.
use Prim.Native.Nat.{ℕ, ◌≤◌}
use mathlib.Core.{Bool.Bool, Bool.true, Bool.false, Bool.beq, Bool.◌&&◌, Path.◌≡◌, Path.refl, Path.sym, Path.ap, Path.◌∙◌, Logic.◌↔◌, Logic.⊎_elim}
use mathlib.Core.{List.List}
use native.Mathlib.Omega.{arith}
use lib.ListN.{get_or, length, take}
use lib.Seq.{length-take-le}
use lib.Dec.{eqb}
use borrow.Author.Tests.{eqb-true, eq-eqb}
use Rattle.std.specs.Prelude.{Ok, Err}
use Rattle.std.proofs.lemmas.Slice.Eq.{bytes_eq-Decides}
use Rattle.std.specs.Str.{bytes_eq}
use Rattle.sequences.specs.Search.{every}
use Rattle.sequences.specs.Table.{table, overwritten}
use Rattle.sequences.proofs.Tests.{and_left, and_right, and_intro, iff_equal}
use Rattle.sequences.proofs.Every.{every_at, every_intro}
use Rattle.sequences.proofs.Table.{length_table, get_or-table, table_cong, take_overwritten}
use Rattle.interval_graph.specs.Order.{IntervalOrder}
use Rattle.interval_graph.specs.Tree.{last}
use Rattle.interval_graph.proofs.Sameness.{SameOverlaps, SameNumbers, last_same, lasts_overlaps, overlaps_numbers, numbers_overlaps}
use Rattle.refusals.specs.declared.refusal.Refusal.{Refusal}
use Rattle.refusals.specs.Question.{Question, refusal_from, from, asked_of}
use Rattle.refusals.proofs.Questions.{first_from, first_cases, asked_first, after_refused, all_passed, asked_yes, yes_asked}
use Rattle.plan.specs.File.{window_count}
use Rattle.overlap.specs.Overlap.{overlaps}
use Rattle.plan.specs.Validation.{AcceptedPlan, greatest_count, plan_questions}
use Rattle.plan.proofs.{Acceptance.few_windows, Calls.plan_passed}
use Rattle.overlap.proofs.InOrder.{interval_order}
use Rattle.minutes.specs.Tables.{last_of}
use Rattle.minutes.specs.SingleTable.{table_questions, table_answer_of}
use Rattle.minutes.proofs.SingleTabled.{table_filled, table_fills}
use Rattle.sameness.specs.Sameness.{same_pairs, same_overlap, same_questions, same_answer_of}

beq_equal : (s t : Bool) → beq s t ≡ true → s ≡ t
beq_equal true true e = refl
beq_equal true false e = sym e
beq_equal false true e = e
beq_equal false false e = refl

equal_beq : (s t : Bool) → s ≡ t → beq s t ≡ true
equal_beq true t e = rw (← e)
equal_beq false t e = rw (← e)

-- The test on all pairs says that the same pairs overlap.
pub pairs_iff_overlaps : (n : ℕ) (first second : ℕ → ℕ → Bool) → (same_pairs n first second ≡ true) ↔ SameOverlaps n first second
unfolding same_pairs
pairs_iff_overlaps n first second = (
  λ t u v h g. beq_equal (first u v) (second u v) (every_at (λ w. beq (first u w) (second u w)) n v
      (every_at (λ w. every (λ z. beq (first w z) (second w z)) n) n u t h) g),
  λ same. every_intro (λ w. every (λ z. beq (first w z) (second w z)) n) n
      (λ u h. every_intro (λ z. beq (first u z) (second u z)) n (λ v g. equal_beq (first u v) (second u v) (same u v h g))),
)

module _ {n : ℕ} {first second : ℕ → ℕ → Bool} (ok : IntervalOrder n first) (ok' : IntervalOrder n second) where
  -- The test on the lasts is the test on all pairs.
  pub lasts_pairs : every (λ k. eqb (last n first k) (last n second k)) n ≡ same_pairs n first second
  lasts_pairs =
      let p : ℕ → Bool = λ k. eqb (last n first k) (last n second k) in
      iff_equal (every p n) (same_pairs n first second)
      (λ t. (pairs_iff_overlaps n first second).1 (lasts_overlaps ok ok' (λ k h. eqb-true _ _ (every_at p n k t h))))
      (λ t. every_intro p n (λ k h. eq-eqb (last n first k) (last n second k) (last_same ((pairs_iff_overlaps n first second).0 t) k h)))

-- Two accepted plans are the same exactly if they have equal n and each window's component, depth, rank and rank of the last
-- are the same.
pub same_iff_numbers : (first second : List ℕ) → AcceptedPlan first → AcceptedPlan second →
    (same_overlap first second ≡ true) ↔ ((window_count first ≡ window_count second)
    × SameNumbers (window_count first) (overlaps first) (overlaps second))
unfolding same_overlap
same_iff_numbers first second ok ok' = (
  λ t.
      let e : n ≡ window_count second = eqb-true n (window_count second) (and_left _ _ t) in (
        e,
        overlaps_numbers (interval_order first ok) (other e)
            ((pairs_iff_overlaps n (overlaps first) (overlaps second)).0 (and_right (eqb n (window_count second)) _ t)),
      ),
  λ s.
      and_intro (eqb n (window_count second)) _ (eq-eqb n (window_count second) s.0)
      ((pairs_iff_overlaps n (overlaps first) (overlaps second)).1 (numbers_overlaps (interval_order first ok) (other s.0) s.1)),
)
  where
    n : ℕ
    n = window_count first

    other : window_count first ≡ window_count second → IntervalOrder (window_count first) (overlaps second)
    other e = rw e (interval_order second ok')

-- A table that holds any plan's lasts: what it is asked is what the plan is, and it has as many entries as the plan has windows.
module _ (file : List ℕ) (room : ℕ) where
  pub table_refused : (r : Refusal) → greatest_count ≤ room → table_answer_of file room ≡ Err r → asked_of (plan_questions file) ≡ Err r
  unfolding table_answer_of table_questions
  table_refused r enough e =
      ⊎_elim (λ ok. let plan = asked_yes (plan_questions file) ok in absurd (apart (sym (table_filled file room plan (omega (arith, few_windows file plan))) ∙ e)))
      (λ other. let refused : table_answer_of file room ≡ Err other.0 = after_refused (plan_questions file) Err _ other.0 other.1 _ in
      let same : other.0 ≡ r = cc in rw same at other.1) (first_cases (plan_questions file) Err (Ok tt))
    where
      apart : Ok (window_count file) ≡ Err r → ⊥
      apart f = cc

  pub table_counts : (n : ℕ) → table_answer_of file room ≡ Ok n →
      (asked_of (plan_questions file) ≡ Ok tt) × (n ≡ window_count file) × (n ≤ room)
  table_counts n e = let t = table_fills file room n e in (yes_asked (plan_questions file) t.0.accepted, t.0.counted, t.1)

-- Questions that are put to the second input.
module _ (qs : List Question) where
  pub from_refused : (r : Refusal) → asked_of qs ≡ Err r → asked_of (from 1 qs) ≡ Err (refusal_from 1 r)
  from_refused r e = first_from 1 qs Err (Ok tt) ∙ asked_first qs (λ s. Err (refusal_from 1 s)) (Ok tt) ∙ rw e

  pub from_passed : asked_of qs ≡ Ok tt → asked_of (from 1 qs) ≡ Ok tt
  from_passed e = first_from 1 qs Err (Ok tt) ∙ asked_first qs (λ s. Err (refusal_from 1 s)) (Ok tt) ∙ rw e

-- Of two accepted plans the test decides.
pub compared : (first second : List ℕ) → AcceptedPlan first → AcceptedPlan second → same_answer_of first second ≡ Ok (same_overlap first second)
unfolding same_answer_of same_questions
compared first second ok ok' =
    plan_passed first _ Err _ ok
    ∙ all_passed (from 1 (plan_questions second)) Err _ (from_passed (plan_questions second) (yes_asked (plan_questions second) ok'))

-- What is written of the lasts.
pub take_lasts : (f : ℕ → ℕ) (n : ℕ) (before : List ℕ) → take n (overwritten before (table f n)) ≡ table f n
take_lasts f n before = rw (length_table f n) at (take_overwritten before (table f n))

-- Two accepted plans are the same exactly if their tables of lasts are equal, which as lists have their plans' lengths.
pub same_tables : (first second : List ℕ) → AcceptedPlan first → AcceptedPlan second →
    bytes_eq (table (last_of first) (window_count first)) (table (last_of second) (window_count second)) ≡ same_overlap first second
unfolding same_overlap last_of
same_tables first second ok ok' = iff_equal (bytes_eq lasts others) (eqb n m && same_pairs n (overlaps first) (overlaps second)) equal_same same_equal
  where
    n : ℕ
    n = window_count first

    m : ℕ
    m = window_count second

    lasts : List ℕ
    lasts = table (last n (overlaps first)) n

    others : List ℕ
    others = table (last m (overlaps second)) m

    pairs : n ≡ m → every (λ k. eqb (last n (overlaps first) k) (last n (overlaps second) k)) n ≡ same_pairs n (overlaps first) (overlaps second)
    pairs e = lasts_pairs (interval_order first ok) (rw e (interval_order second ok'))

    equal_same : bytes_eq lasts others ≡ true → (eqb n m && same_pairs n (overlaps first) (overlaps second)) ≡ true
    equal_same t =
        let same : lasts ≡ others = (bytes_eq-Decides lasts others).0 t in
        let e : n ≡ m = omega (arith, ap (length {A = ℕ}) same, length_table (last n (overlaps first)) n, length_table (last m (overlaps second)) m) in
        and_intro (eqb n m) _ (eq-eqb n m e) (sym (pairs e) ∙ every_intro _ n (λ k h. eq-eqb _ _ (
        sym (get_or-table (last n (overlaps first)) n k 0 h) ∙ ap (λ l. get_or l k 0) same
        ∙ (get_or-table (last m (overlaps second)) m k 0 (omega arith) ∙ ap (λ x. last x (overlaps second) k) (sym e))
        )))

    same_equal : (eqb n m && same_pairs n (overlaps first) (overlaps second)) ≡ true → bytes_eq lasts others ≡ true
    same_equal t =
        let e : n ≡ m = eqb-true n m (and_left (eqb n m) _ t) in
        let all = pairs e ∙ and_right (eqb n m) _ t in
        (bytes_eq-Decides lasts others).1 (table_cong (last n (overlaps first)) (last n (overlaps second)) n (λ k h. eqb-true _ _ (every_at _ n k all h))
        ∙ ap (λ x. table (last x (overlaps second)) x) e)

pub ruleset by_lasts = (table_refused, table_counts, from_refused, from_passed, take_lasts, same_tables, asked_yes, length-take-le)
