-- What is said of sameness: two accepted plans are the same exactly if their tag files are equal apart from the plan number.
-- Assumes nothing.
use Rattle.std.specs.Prelude.{Bool, true, false, Result, Ok}
use Rattle.refusals.specs.declared.refusal.Refusal.{Refusal}
use Prim.Native.Nat.{ℕ, ◌<◌}
use mathlib.Core.{Path.◌≡◌, Path.refl, Path.sym, Path.ap, Path.◌∙◌, Logic.◌↔◌, Logic.⊎_elim, List.List, List.◌++◌}
use native.Mathlib.Omega.{arith}
use lib.ListN.{drop}
use borrow.Author.Tests.{eqb-true, eq-eqb}
use Rattle.sequences.proofs.Tests.{truth, and_left, and_right, and_intro}
use Rattle.interval_graph.specs.Tree.{rank, last_rank}
use Rattle.interval_graph.specs.Numbers.{Numbers, numbers_of}
use Rattle.interval_graph.proofs.Sameness.{SameNumbers}
use Rattle.wire.specs.LittleEndian.{bytes16}
use Rattle.plan.specs.File.{window_count}
use Rattle.overlap.specs.Overlap.{overlaps}
use Rattle.tag_bytes.specs.declared.tag.Tag.{Tag}
use Rattle.tag_bytes.specs.Fields.{tag_of, tag_with, tag_bytes, short_bytes}
use Rattle.tag_bytes.proofs.Fields.{tag_of-tag_bytes}
use Rattle.tag_bytes.proofs.TagFile.{tag_file_lookup}
use Rattle.numbering.specs.Tables.{numbers_at}
use Rattle.sameness.specs.Sameness.{same_overlap, same_answer_of}
use Rattle.sameness.proofs.Sameness.{pairs_iff_overlaps, same_iff_numbers, compared}
use Rattle.demands.specs.EndToEnd.{tag_at}
use Rattle.demands.specs.Calls.{SameOverlap, Sameness}

-- The numbers with 0 for the plan number.
unplanned : Numbers → Numbers
unplanned n = record { plan = 0; component = n.component; depth = n.depth; rank = n.rank; last = n.last }

-- The bytes after the plan number are the tag's but for the plan number.
unplanned_bytes : (n : Numbers) → tag_bytes (unplanned n) ≡ bytes16 0 ++ drop 2 (tag_bytes n)
unfolding unplanned tag_bytes short_bytes bytes16
unplanned_bytes n = refl

-- Equal bytes after the plan number are equal numbers but for the plan number.
numbers_equal : (m n : Numbers) → drop 2 (tag_bytes m) ≡ drop 2 (tag_bytes n) → tag_with (unplanned m) ≡ tag_with (unplanned n)
numbers_equal m n e =
    sym (tag_of-tag_bytes (unplanned m))
    ∙ (ap tag_of (unplanned_bytes m ∙ (ap (λ (l : List ℕ). bytes16 0 ++ l) e ∙ sym (unplanned_bytes n))) ∙ tag_of-tag_bytes (unplanned n))

bytes_equal : (m n : Numbers) → m.component ≡ n.component → m.depth ≡ n.depth → m.rank ≡ n.rank → m.last ≡ n.last →
    drop 2 (tag_bytes m) ≡ drop 2 (tag_bytes n)
unfolding tag_bytes short_bytes bytes16
bytes_equal m n c d r l = rw (c, d, r, l)

pub tag_bytes_lem : (file : List ℕ) (v : ℕ) → v < window_count file → tag_at file v ≡ tag_bytes (numbers_at file v)
unfolding tag_at
tag_bytes_lem file v h = tag_file_lookup (numbers_at file) (window_count file) v h

module _ (first second : List ℕ) (count : window_count first ≡ window_count second) where
  -- Where the numbers agree, so do the bytes, and conversely.
  tags_agree : SameNumbers (window_count first) (overlaps first) (overlaps second) → (v : ℕ) → v < window_count first →
      drop 2 (tag_at first v) ≡ drop 2 (tag_at second v)
  unfolding numbers_at numbers_of
  tags_agree s v h =
      rw (tag_bytes_lem first v h, tag_bytes_lem second v (rw (← count) h))
      (bytes_equal (numbers_at first v) (numbers_at second v) (s.components v h) (s.depths v h)
      (s.ranks v h ∙ ap (λ n. rank n (overlaps second) v) count) (s.lasts v h ∙ ap (λ n. last_rank n (overlaps second) v) count))

  numbers_agree : ((v : ℕ) → v < window_count first → drop 2 (tag_at first v) ≡ drop 2 (tag_at second v)) →
      SameNumbers (window_count first) (overlaps first) (overlaps second)
  unfolding numbers_at numbers_of unplanned
  numbers_agree tags =
      record {
        components = λ v h. ap (λ (t : Tag). t.component) (same v h);
        depths = λ v h. ap (λ (t : Tag). t.depth) (same v h);
        ranks = λ v h. ap (λ (t : Tag). t.rank) (same v h) ∙ ap (λ n. rank n (overlaps second) v) (sym count);
        lasts = λ v h. ap (λ (t : Tag). t.last) (same v h) ∙ ap (λ n. last_rank n (overlaps second) v) (sym count);
      }
    where
      same : (v : ℕ) → v < window_count first → tag_with (unplanned (numbers_at first v)) ≡ tag_with (unplanned (numbers_at second v))
      same v h =
          numbers_equal (numbers_at first v) (numbers_at second v)
          (ap (drop 2) (sym (tag_bytes_lem first v h)) ∙ (tags v h ∙ ap (drop 2) (tag_bytes_lem second v (rw (← count) h))))

-- The test that the call answers by says that the plans overlap alike.
test_same : (first second : List ℕ) → (same_overlap first second ≡ true) ↔ SameOverlap first second
unfolding same_overlap
test_same first second = (
  λ t.
      record {
        count = eqb-true _ _ (and_left _ _ t);
        pairs = (pairs_iff_overlaps _ _ _).0 (and_right (lib.Dec.eqb (window_count first) (window_count second)) _ t);
      },
  λ s. and_intro _ _ (eq-eqb _ _ s.count) ((pairs_iff_overlaps _ _ _).1 s.pairs),
)

different_not_same : ◌≡◌ {A = Result Bool Refusal} (Ok false) (Ok true) → ⊥
different_not_same e = let z : ◌≡◌ {A = ℕ} 0 1 = cc in omega arith

module _ (first second : List ℕ) (answer : same_answer_of first second ≡ Ok (same_overlap first second)) where
  same_answered : (same_answer_of first second ≡ Ok true) ↔ SameOverlap first second
  same_answered = (
    λ e. ⊎_elim (λ t. (test_same first second).0 t) (λ t. absurd (different_not_same (sym (rw t at answer) ∙ e))) (truth (same_overlap first second)),
    λ s. rw ((test_same first second).1 s) at answer,
  )

  different_answered : (same_answer_of first second ≡ Ok false) ↔ (SameOverlap first second → ⊥)
  different_answered = (
    λ e s. different_not_same (sym e ∙ same_answered.1 s),
    λ other. ⊎_elim (λ t. absurd (other ((test_same first second).0 t))) (λ t. rw t at answer) (truth (same_overlap first second)),
  )

pub sameness : Sameness
sameness first second ok ok' =
    let answer = compared first second ok ok' in
    record {
      same = same_answered first second answer;
      different = different_answered first second answer;
      tags = (
        λ s.
            let numbers = (same_iff_numbers first second ok ok').0 ((test_same first second).1 s) in
            record { count = numbers.0; tags = tags_agree first second numbers.0 numbers.1 },
        λ t. (test_same first second).0 ((same_iff_numbers first second ok ok').1 (t.count, numbers_agree first second t.count t.tags)),
      );
    }
