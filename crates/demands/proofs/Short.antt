-- Q-1: the theory of short tags at the overlap of an even plan, and plan 12, of which the two pairs do not answer alike.
-- Assumes nothing.
use Rattle.std.specs.Prelude.{Err}
use Prim.Native.Nat.{ℕ, ◌*◌, ◌≤◌, ◌<◌}
use mathlib.Core.{Path.◌≡◌, Path.refl, Path.sym, Path.ap, Path.◌∙◌, List.List, List.[]}
use native.Mathlib.Omega.{arith}
use lib.ListN.{length}
use borrow.Author.Tests.{eq-eqb, le-leb}
use Rattle.interval_graph.specs.Numbers.{numbers_of, short, short_between, short_outcome}
use Rattle.interval_graph.proofs.Plan12.{definitions}
use Rattle.interval_graph.proofs.Even.{short_outcome_lem}
use Rattle.refusals.proofs.Questions.{first_append, all_first}
use Rattle.plan.specs.File.{plan_number, window_count}
use Rattle.plan.specs.Validation.{AcceptedPlan}
use Rattle.plan.specs.Even.{even_questions}
use Rattle.overlap.proofs.Plan12.{meaning}
use Rattle.overlap.proofs.InOrder.{interval_order}
use Rattle.plan.proofs.Calls.{plan_passed}
use Rattle.plan.proofs.Even.{even_ends, ends_even}
use Rattle.overlap.proofs.Even.{even_lasts}
use Rattle.tag_bytes.specs.Fields.{short_length}
use Rattle.tag_bytes.proofs.TagFile.{length-short_tag_file, short_tag_file_part}
use Rattle.tag_bytes.proofs.Writing.{short_bytes_read, within_short, short_reads_back, short_writes_back}
use Rattle.tag.specs.Pairing.{answer_of, compared_by, pair_answer_of}
use Rattle.short_tag.specs.ShortPairing.{short_pair_answer_of}
use Rattle.tag.specs.declared.pairs.PairAnswer.TheVariants as PairAnswer
use Rattle.short_tag.proofs.ShortPairing.{pair_short_bytes, short_pair_symmetric, short_at_found}
use Rattle.numbering.specs.Numbering.{built_as}
use Rattle.numbering.specs.Tables.{component_count, numbers_at}
use Rattle.even_tags.specs.ShortTags.{short_tags_questions, short_tags_answer_of, after_short_tags}
use Rattle.demands.specs.EndToEnd.{tag_at}
use Rattle.demands.specs.Cases.{plan12}
use Rattle.demands.specs.Short.{EndsRise, short_tag_at, ShortPairs, NeedsEven, ShortTags}
use Rattle.demands.proofs.Tree.{window_within}
use Rattle.demands.proofs.Counts.{agree, pair_rule, demand_3}

module _ (file : List ℕ) (ok : AcceptedPlan file) (u v : ℕ) (hu : u < window_count file) (hv : v < window_count file) where
  -- So the answer from two short tags is what their rule says.
  short_rule : short_pair_answer_of (short_tag_at file u) (short_tag_at file v) ≡ answer_of (short_outcome (short (numbers_at file u)) (short (numbers_at file v)))
  unfolding short_tag_at compared_by numbers_at numbers_of short
  short_rule =
      rw (short_tag_file_part (numbers_at file) (window_count file) u hu, short_tag_file_part (numbers_at file) (window_count file) v hv)
      (pair_short_bytes (numbers_at file u) (numbers_at file v) (window_within file ok u hu) (window_within file ok v hv)
      ∙ rw (eq-eqb (plan_number file) (plan_number file) refl, agree file ok u v hu hv (λ w. short (numbers_at file w)) (λ w. refl) (λ w. refl)))

pub short_pairs : ShortPairs
unfolding numbers_at short_tag_at
short_pairs file ok rise u v hu hv =
    let lasts = even_lasts file ok (ends_even file rise) in let n = window_count file in
    let same = short_rule file ok u v hu hv
    ∙ (ap answer_of (short_outcome_lem (interval_order file ok) lasts u v (plan_number file) hu hv) ∙ sym (pair_rule file ok u v hu hv)) in
    let long = demand_3 file ok u v hu hv [] in
    record {
      as_long = same;
      counted = λ k. (λ e. (long.counted k).0 (sym same ∙ e), λ least. same ∙ (long.counted k).1 least);
      tags_apart = (λ e. long.tags_apart.0 (sym same ∙ e), λ none. same ∙ long.tags_apart.1 none);
      at_positions = short_at_found _ u v n (length-short_tag_file (numbers_at file) n) hu hv;
    }

-- Windows 1 and 3 of plan 12 are 2 apart, and their short tags say 1.
pub needs_even : NeedsEven
unfolding definitions meaning plan12 short short_between numbers_at
needs_even =
    let ok : AcceptedPlan plan12 = refl in let hu : 1 < window_count plan12 = omega arith in let hv : 3 < window_count plan12 = omega arith in
    let one : short_pair_answer_of (short_tag_at plan12 1) (short_tag_at plan12 3) ≡ PairAnswer.Handovers 1 = short_rule plan12 ok 1 3 hu hv in
    let two : pair_answer_of (tag_at plan12 1) (tag_at plan12 3) ≡ PairAnswer.Handovers 2 = pair_rule plan12 ok 1 3 hu hv in (
      plan12,
      1,
      3,
      record {
        accepted = ok;
        first_window = hu;
        second_window = hv;
        differ = λ e. let z : ◌≡◌ {A = ℕ} 1 2 = cc in omega arith;
      },
    )

-- An even plan with room is answered so.
all_written : (file : List ℕ) → AcceptedPlan file → EndsRise file → (t : ℕ) → short_length * window_count file ≤ t →
    short_tags_answer_of file t ≡ built_as (plan_number file) (window_count file) (component_count file)
unfolding short_tags_answer_of short_tags_questions
all_written file ok rise t fits =
    plan_passed file _ Err _ ok ∙ (first_append (even_questions file) _ Err _
    ∙ (all_first (even_questions file) Err _ (ends_even file rise) ∙ rw (le-leb (short_length * window_count file) t fits)))

pub short_tags : ShortTags
unfolding short_tag_at numbers_at after_short_tags
short_tags =
    record {
      even = λ file. (even_ends file, ends_even file);
      written = λ file ok rise before fits. rw (all_written file ok rise (length before) fits);
      tags = λ file ok v h. rw (short_tag_file_part (numbers_at file) (window_count file) v h)
          (short_bytes_read (numbers_at file v) (within_short (numbers_at file v) (window_within file ok v h)));
      reads_back = short_reads_back;
      writes_back = short_writes_back;
      either_order = short_pair_symmetric;
    }
