-- What the call that runs everything needs: the tag file in a table that holds any plan's, and the answer from two tags of it.
-- Assumes nothing.
use Rattle.std.specs.Prelude.{Ok, Err, Result}
use Prim.Native.Nat.{ℕ, ◌*◌, ◌≤◌, ◌<◌}
use mathlib.Core.{Path.◌≡◌, Path.refl, Path.sym, Path.◌∙◌, List.List}
use native.Mathlib.Omega.{arith}
use lib.ListN.{take}
use borrow.Author.Tests.{le-leb, lt-ltb}
use Rattle.sequences.specs.Table.{overwritten}
use Rattle.sequences.proofs.Table.{take_overwritten}
use Rattle.refusals.specs.declared.refusal.Refusal.{Refusal}
use Rattle.plan.specs.declared.questions.Accepted.{Accepted}
use Rattle.plan.specs.File.{plan_number, window_count}
use Rattle.plan.specs.Validation.{greatest_count, AcceptedPlan, validate_answer_of}
use Rattle.plan.specs.AcceptedWindows.{AcceptedWindows}
use Rattle.plan.proofs.Acceptance.{accepted_validated}
use Rattle.plan.proofs.Calls.{plan_refused, plan_accepted, plan_first}
use Rattle.plan.proofs.Counted.{windows_few, validated_windows}
use Rattle.tag.specs.declared.pairs.PairAnswer.{PairAnswer}
use Rattle.tag_bytes.specs.Fields.{tag_length}
use Rattle.tag_bytes.specs.TagFile.{tag_file}
use Rattle.tag.specs.Pairing.{pair_answer_of, pair_at_answer_of}
use Rattle.tag_bytes.proofs.TagFile.{length-tag_file}
use Rattle.tag.proofs.Pairing.{pair_at_tag_file}
use Rattle.numbering.specs.declared.filling.Built as numbering
use Rattle.numbering.specs.Numbering.{built_as}
use Rattle.numbering.specs.Tables.{component_count, numbers_at}
use Rattle.tree.specs.Build.{tags_questions, tags_answer_of, after_tags}
use Rattle.demands.specs.EndToEnd.{tag_at, pair_from_plan}

-- A table that holds any plan's tag file is answered as the validation is: its refusal, or the plan's own numbers.
abbrev validated : List ℕ → Result Accepted Refusal → Result numbering.Built Refusal
validated file (Ok said) = built_as (plan_number file) said.windows (component_count file)
validated file (Err refusal) = Err refusal

module _ (file : List ℕ) (room : ℕ) (enough : tag_length * greatest_count ≤ room) where
  by_validation : (v : Result Accepted Refusal) → v ≡ validate_answer_of file → tags_answer_of file room ≡ validated file v
  unfolding tags_answer_of tags_questions
  by_validation (Ok said) e =
      let p = validated_windows file (Ok said) e said.plan said.windows refl in
      plan_first file _ Err _
      ∙ rw (← e, le-leb (tag_length * window_count file) room (omega (arith, windows_few p, p.counted)), p.counted)
  by_validation (Err refusal) e = plan_first file _ Err _ ∙ rw (← e)

  refused_by : (v : Result Accepted Refusal) (refusal : Refusal) → Err refusal ≡ validated file v → v ≡ Err refusal
  refused_by (Ok said) refusal e = let z : ◌≡◌ {A = ℕ} 0 1 = cc in absurd (omega arith)
  refused_by (Err other) refusal e = cc

  built_by : (v : Result Accepted Refusal) (built : numbering.Built) → v ≡ validate_answer_of file → Ok built ≡ validated file v →
      AcceptedWindows file built.windows
  built_by (Ok said) built e f =
      let same : built.windows ≡ said.windows = cc in rw same (validated_windows file (Ok said) e said.plan said.windows refl)
  built_by (Err refusal) built e f = let z : ◌≡◌ {A = ℕ} 0 1 = cc in absurd (omega arith)

  module _ (first second : ℕ) (answer : Result numbering.Built Refusal) (answered : answer ≡ tags_answer_of file room) where
    pub running_refused : (refusal : Refusal) → answer ≡ Err refusal → PairAnswer.Refused refusal ≡ pair_from_plan file first second
    unfolding pair_from_plan
    running_refused refusal e =
        plan_refused file _ PairAnswer.Refused _ _ refl refusal
        (refused_by (validate_answer_of file) refusal (sym e ∙ (answered ∙ by_validation (validate_answer_of file) refl)))

    module _ (built : numbering.Built) (e : answer ≡ Ok built) where
      pub running_windows : AcceptedWindows file built.windows
      running_windows =
          built_by (validate_answer_of file) built refl (sym e ∙ (answered ∙ by_validation (validate_answer_of file) refl))

      -- The front of the table is the plan's tag file.
      pub running_paired : (before tags : List ℕ) → tags ≡ after_tags answer (numbers_at file) before →
          pair_at_answer_of (take (tag_length * built.windows) tags) first second ≡ pair_from_plan file first second
      unfolding pair_from_plan after_tags tag_at
      running_paired before tags after =
          let p = running_windows in
          let filled : tags ≡ overwritten before (tag_file (numbers_at file) built.windows) = rw e at after in
          let front : take (tag_length * built.windows) tags ≡ tag_file (numbers_at file) built.windows =
          rw (filled, ← length-tag_file (numbers_at file) built.windows) (take_overwritten before (tag_file (numbers_at file) built.windows)) in
          rw front (pair_at_tag_file (numbers_at file) built.windows first second
          ∙ (rw p.counted (plan_accepted file _ PairAnswer.Refused _ (validate_answer_of file) refl _ _ (accepted_validated file p.accepted))))

-- Of the positions of two windows of an accepted plan the tags answer.
pub paired_windows : (file : List ℕ) → AcceptedPlan file → (u v : ℕ) → u < window_count file → v < window_count file →
    pair_from_plan file u v ≡ pair_answer_of (tag_at file u) (tag_at file v)
unfolding pair_from_plan
paired_windows file ok u v hu hv =
    sym (plan_accepted file _ PairAnswer.Refused _ (validate_answer_of file) refl _ _ (accepted_validated file ok))
    ∙ rw (lt-ltb u (window_count file) hu, lt-ltb v (window_count file) hv)
