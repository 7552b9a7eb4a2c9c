-- For calls that put questions 1 to 6 to a file by `validate` and then ask more.
-- Assumes nothing.
use Prim.Native.Nat.{ℕ}
use mathlib.Core.{Bool.true, Bool.false, Path.◌≡◌, Path.refl, Path.sym, Path.ap, Path.◌∙◌, Logic.⊎_elim, List.List, List.[], List.◌∷◌, List.◌++◌}
use native.Mathlib.Omega.{arith}
use Rattle.refusals.specs.{declared.refusal.Refusal.Refusal, Question.Question, Question.refusal_from, Question.from, Question.first_no}
use Rattle.refusals.proofs.Questions.{first_yes, first_no_lem, first_append, first_from, first_map, first_cases}
use Rattle.std.specs.Prelude.{Result, Ok, Err}
use Rattle.plan.specs.declared.questions.Accepted.{Accepted}
use Rattle.plan.specs.Validation.{accepted_as}
use Rattle.plan.specs.File.{plan_number, window_count}
use Rattle.plan.specs.Validation.{plan_questions, validate_answer_of, AcceptedPlan}
use Rattle.plan.proofs.Acceptance.{accepted_validated, validated_accepted}

-- What a call answers after a validation: its refusal, or what is asked next.
abbrev pub after_validation : {A : Type 0} → Result Accepted Refusal → (Refusal → A) → A → A
after_validation (Ok whole) refused next = next
after_validation (Err refusal) refused next = refused refusal

-- The questions of a plan, and then others: the validation's answer, and then theirs.
pub plan_first : {A : Type 0} (file : List ℕ) (more : List Question) (refused : Refusal → A) (accepted : A) →
    first_no (plan_questions file ++ more) refused accepted ≡ after_validation (validate_answer_of file) refused (first_no more refused accepted)
unfolding validate_answer_of
plan_first file more refused accepted =
    let whole = accepted_as (plan_number file) (window_count file) in first_append (plan_questions file) more refused accepted
    ∙ sym (first_map (λ v. after_validation v refused (first_no more refused accepted)) (plan_questions file) Err whole)

-- Of an accepted plan the others alone decide.
pub plan_passed : {A : Type 0} (file : List ℕ) (more : List Question) (refused : Refusal → A) (accepted : A) → AcceptedPlan file →
    first_no (plan_questions file ++ more) refused accepted ≡ first_no more refused accepted
plan_passed file more refused accepted ok = plan_first file more refused accepted ∙ rw (accepted_validated file ok)

-- The numbers of a validation that is accepted.
abbrev said_plan : Result Accepted Refusal → ℕ
said_plan (Ok whole) = whole.plan
said_plan (Err refusal) = 0

abbrev said_windows : Result Accepted Refusal → ℕ
said_windows (Ok whole) = whole.windows
said_windows (Err refusal) = 0

-- A validation that is accepted is so with the file's own numbers.
pub accepted_numbers : (file : List ℕ) (plan windows : ℕ) → accepted_as plan windows ≡ validate_answer_of file →
    (plan ≡ plan_number file) × (windows ≡ window_count file)
unfolding validate_answer_of
accepted_numbers file plan windows e =
    ⊎_elim (λ same. (ap said_plan (e ∙ same), ap said_windows (e ∙ same))) (λ refusal. let z : ◌≡◌ {A = ℕ} 0 1 = cc in absurd (omega arith))
    (first_cases (plan_questions file) Err (accepted_as (plan_number file) (window_count file)))

-- So the file is that of an accepted plan.
pub accepted_plan : (file : List ℕ) (plan windows : ℕ) → accepted_as plan windows ≡ validate_answer_of file → AcceptedPlan file
accepted_plan file plan windows e = let numbers = accepted_numbers file plan windows e in validated_accepted file (sym e ∙ cc)

-- Further questions that an accepted plan answers alike can stand for one another.
pub plan_alike : {A : Type 0} (file : List ℕ) (more other : List Question) (refused : Refusal → A) (accepted : A) →
    (AcceptedPlan file → first_no more refused accepted ≡ first_no other refused accepted) →
    first_no (plan_questions file ++ more) refused accepted ≡ first_no (plan_questions file ++ other) refused accepted
plan_alike file more other refused accepted same =
    plan_first file more refused accepted ∙ (by_answer (validate_answer_of file) refl ∙ sym (plan_first file other refused accepted))
  where
    by_answer : (v : Result Accepted Refusal) → v ≡ validate_answer_of file →
        after_validation v refused (first_no more refused accepted) ≡ after_validation v refused (first_no other refused accepted)
    by_answer (Ok whole) e = same (accepted_plan file whole.plan whole.windows e)
    by_answer (Err refusal) e = refl

-- The answer of a call that validates first and then asks more, by what the validation answered.
module _ {A : Type 0} (file : List ℕ) (more : List Question) (refused : Refusal → A) (accepted : A)
    (answer : Result Accepted Refusal) (validated : answer ≡ validate_answer_of file) where
  pub plan_refused : (refusal : Refusal) → answer ≡ Err refusal → refused refusal ≡ first_no (plan_questions file ++ more) refused accepted
  plan_refused refusal e = sym (plan_first file more refused accepted ∙ rw (← validated, e))

  pub plan_accepted : (plan windows : ℕ) → answer ≡ accepted_as plan windows →
      first_no more refused accepted ≡ first_no (plan_questions file ++ more) refused accepted
  plan_accepted plan windows e = sym (plan_first file more refused accepted ∙ rw (← validated, e))

-- The same where one question more is asked.
module _ {A : Type 0} (file : List ℕ) (q : Question) (refused : Refusal → A) (accepted : A)
    (answer : Result Accepted Refusal) (validated : answer ≡ validate_answer_of file) (plan windows : ℕ) (e : answer ≡ accepted_as plan windows) where
  pub one_more_no : q.yes ≡ false → refused q.refusal ≡ first_no (plan_questions file ++ (q ∷ [])) refused accepted
  one_more_no t = sym (first_no_lem [] refused accepted q t) ∙ plan_accepted file (q ∷ []) refused accepted answer validated plan windows e

  pub one_more_yes : q.yes ≡ true → accepted ≡ first_no (plan_questions file ++ (q ∷ [])) refused accepted
  one_more_yes t = sym (first_yes [] refused accepted q t) ∙ plan_accepted file (q ∷ []) refused accepted answer validated plan windows e

-- The questions to a call's second file are answered by its validation, with the second input at fault.
pub plan_second : {A : Type 0} (file : List ℕ) (refused : Refusal → A) (accepted : A) →
    first_no (from 1 (plan_questions file)) refused accepted ≡ after_validation (validate_answer_of file) (λ r. refused (refusal_from 1 r)) accepted
unfolding validate_answer_of
plan_second file refused accepted =
    let whole = accepted_as (plan_number file) (window_count file) in first_from 1 (plan_questions file) refused accepted
    ∙ sym (first_map (λ v. after_validation v (λ r. refused (refusal_from 1 r)) accepted) (plan_questions file) Err whole)
