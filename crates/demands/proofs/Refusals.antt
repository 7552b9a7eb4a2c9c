-- Demand 1: one law on a list of questions, at every call.
-- Assumes nothing.
use Rattle.std.specs.Prelude.{Ok, Err}
use Prim.Native.Nat.{ℕ}
use mathlib.Core.{Path.◌≡◌, Path.refl, Path.sym, Path.ap, Path.◌∙◌, Logic.⊎_elim, List.List, List.[]}
use mathlib.Core.{List.◌∷◌}
use native.Mathlib.Omega.{arith}
use Rattle.sequences.proofs.Tests.{truth}
use Rattle.interval_graph.specs.Numbers.{Outcome, apart, no_chain, outcome, short_outcome}
use Rattle.refusals.specs.declared.refusal.Refusal.{Refusal}
use Rattle.refusals.specs.Question.{Question, first_no}
use Rattle.refusals.proofs.Questions.{first_yes, first_no_lem}
use Rattle.plan.specs.Validation.{validate_answer_of}
use Rattle.tag.specs.declared.pairs.PairAnswer.TheVariants as PairAnswer
use Rattle.tag_bytes.specs.Fields.{tag_of, numbers, short_length, short_tag_of, short_numbers}
use Rattle.tag_bytes.specs.TagFile.{part_of, tag_part}
use Rattle.tag_bytes.proofs.TagFile.{part_refused}
use Rattle.tag.specs.Pairing.{answer_of, pair_answer_by, pair_at_by}
use Rattle.page.specs.Page.{after_page}
use Rattle.page.proofs.Filled.{query_asked}
use Rattle.numbering.specs.Numbering.{numbers_answer_of, after_build}
use Rattle.tree.specs.Build.{build_answer_of, tags_answer_of, after_tags}
use Rattle.minutes.specs.SingleTable.{table_answer_of, after_table}
use Rattle.minutes.specs.EvenTable.{even_table_answer_of}
use Rattle.even_tags.specs.ShortTags.{short_tags_answer_of, after_short_tags}
use Rattle.changing.specs.Questions.{change_answer_of, after_change}
use Rattle.overlap.specs.Margin.{margin_answer_of}
use Rattle.reaching.specs.Reach.{reach_in, reach_of, reach_answer_of}
use Rattle.path.specs.Chain.{chain_between, chain_found, chain_answer_of, after_chain}
use Rattle.neighbouring.specs.Neighbours.{neighbours_answer_of, after_neighbours}
use Rattle.sameness.specs.Sameness.{same_answer_of}
use Rattle.demands.specs.Refusals.{FirstNo, here, there, Refuses, Demand1}

-- An answer by `first_no` is a refusal exactly if that is the first "no", where what is accepted is no refusal and a refusal can be
-- told from its answer.
module _ {A : Type 0} (refused : Refusal → A) (accepted : A) (tells : (r s : Refusal) → refused r ≡ refused s → r ≡ s)
    (apart : (r : Refusal) → accepted ≡ refused r → ⊥) where
  sound : (qs : List Question) (r : Refusal) → first_no qs refused accepted ≡ refused r → FirstNo qs r
  sound [] r e = absurd (apart r e)
  sound (q ∷ qs) r e =
      ⊎_elim (λ t. there t (sound qs r (sym (first_yes qs refused accepted q t) ∙ e)))
      (λ t. here t (sym (tells q.refusal r (sym (first_no_lem qs refused accepted q t) ∙ e)))) (truth q.yes)

  complete : (qs : List Question) (r : Refusal) → FirstNo qs r → first_no qs refused accepted ≡ refused r
  complete [] r none = elim none [ ]
  complete (q ∷ qs) r (here t e) = first_no_lem qs refused accepted q t ∙ ap refused (sym e)
  complete (q ∷ qs) r (there t m) = first_yes qs refused accepted q t ∙ complete qs r m

  refuses : (qs : List Question) → Refuses qs refused (first_no qs refused accepted)
  refuses qs r = (sound qs r, complete qs r)

-- What the rule says of two tags, and what is found of a chain, is no refusal.
pub outcome_answered : (o : Outcome) (r : Refusal) → answer_of o ≡ PairAnswer.Refused r → ⊥
outcome_answered (apart k) r e = let z : ◌≡◌ {A = ℕ} 0 1 = cc in omega arith
outcome_answered no_chain r e = let z : ◌≡◌ {A = ℕ} 0 1 = cc in omega arith

chain_found_lem : (l : List ℕ) (r : Refusal) → chain_found l ≡ Err r → ⊥
unfolding chain_found
chain_found_lem [] r e = let z : ◌≡◌ {A = ℕ} 0 1 = cc in omega arith
chain_found_lem (x ∷ l) r e = let z : ◌≡◌ {A = ℕ} 0 1 = cc in omega arith

-- An answer of the library's type, which tells by itself what is a refusal.
refuses_result : {A : Type 0} (accepted : A) (qs : List Question) → Refuses qs Err (first_no qs Err (Ok accepted))
refuses_result accepted = refuses Err (Ok accepted) (λ r s e. cc) (λ r (e : Ok accepted ≡ Err r). cc)

-- An answer that is the same refuses the same.
refuses_as : {A : Type 0} {qs : List Question} {refused : Refusal → A} {answer other : A} → answer ≡ other → Refuses qs refused answer →
    Refuses qs refused other
refuses_as e by r = (λ f. (by r).0 (e ∙ f), λ m. sym e ∙ (by r).1 m)

pub demand_1 : Demand1
unfolding validate_answer_of numbers_answer_of build_answer_of tags_answer_of table_answer_of reach_in reach_of reach_answer_of chain_answer_of neighbours_answer_of same_answer_of after_build after_tags after_table after_chain after_neighbours short_tags_answer_of even_table_answer_of after_short_tags after_page change_answer_of after_change margin_answer_of
    pair_answer_by pair_at_by
demand_1 =
    record {
      validating = λ file. refuses_result _ _;
      building = λ file p c d r l t. refuses_result _ _;
      tagging = λ file room. refuses_result _ _;
      tabling = λ file room. refuses_result _ _;
      numbering = λ file room. refuses_result _ _;
      reaching = λ file at. refuses_result _ _;
      chaining = λ file first second room. refuses Err _ (λ r s e. cc) (chain_found_lem (chain_between file first second)) _;
      neighbouring = λ file at room. refuses_result _ _;
      margining = λ file first second. refuses_result _ _;
      changing = λ file c changed tags. refuses_result _ _;
      comparing = λ first second. refuses_result _ _;
      reading = λ bytes. refuses_result _ _;
      writing = λ n out. refuses_result _ _;
      looking_up = λ tags at. refuses_result _ _;
      pairing = λ first second. refuses PairAnswer.Refused _ (λ r s e. cc) (outcome_answered (outcome (numbers (tag_of first)) (numbers (tag_of second)))) _;
      pairing_at = λ tags first second. refuses PairAnswer.Refused _ (λ r s e. cc)
          (outcome_answered (outcome (numbers (tag_of (tag_part tags first))) (numbers (tag_of (tag_part tags second))))) _;
      short_tagging = λ file room. refuses_result _ _;
      even_tabling = λ file room. refuses_result _ _;
      short_reading = λ bytes. refuses_result _ _;
      short_writing = λ n out. refuses_result _ _;
      short_pairing = λ first second. refuses PairAnswer.Refused _ (λ r s e. cc)
          (outcome_answered (short_outcome (short_numbers (short_tag_of first)) (short_numbers (short_tag_of second)))) _;
      short_pairing_at = λ tags first second. refuses PairAnswer.Refused _ (λ r s e. cc) (outcome_answered (short_outcome
          (short_numbers (short_tag_of (part_of short_length tags first))) (short_numbers (short_tag_of (part_of short_length tags second))))) _;
      paging = λ tags. refuses_result _ _;
      querying = λ tags first second. refuses_as (sym (query_asked tags first second)) (refuses PairAnswer.Refused _ (λ r s e. cc)
          (outcome_answered (outcome (numbers (tag_of (tag_part tags first))) (numbers (tag_of (tag_part tags second))))) _);
      asking = λ questions. refuses_result _ questions;
      build_untouched = λ r f before. refl;
      tags_untouched = λ r f before. refl;
      short_tags_untouched = λ r f before. refl;
      table_untouched = λ r f before. refl;
      change_untouched = λ r new before. refl;
      chain_untouched = λ r chain before. refl;
      neighbours_untouched = λ r neighbours before. refl;
      write_untouched = λ r n before. refl;
      short_write_untouched = λ r n before. refl;
      page_untouched = λ r tags before. refl;
      lookup_empty = λ tags at r e. part_refused tags at r e;
    }
