-- What is asked of a change: which question is the first "no", what is known of a change that passes, and what is then answered.
-- Vocabulary: fits_both, change_15, change_16, change_refused, change_8, change_passed, asked_accepted, change_plan, change_other, accept_change,
-- change_added, change_withdrawn, change_accepted, change_answered, withdraw_7.
-- Assumes nothing.
use Prim.Native.Nat.{ℕ, ◌*◌, ◌≤◌, ◌<◌}
use mathlib.Core.Bool.{true, false, ◌&&◌}
use mathlib.Core.{Path.◌≡◌, Path.refl, Path.sym, Path.◌∙◌, List.List, List.[], List.◌∷◌, List.◌++◌}
use mathlib.Core.List.{Memᴰ}
use native.Mathlib.Omega.{arith}
use lib.ListN.{length}
use lib.Dec.{ltb, leb}
use borrow.Author.Tests.{ltb-true, leb-true, eqb-false, le-ltb, le-leb, eq-eqb, ne_eqb, not-true}
use Rattle.sequences.proofs.Tests.{and_left, and_right, and_intro}
use Rattle.std.specs.Prelude.{Ok, Err}
use Rattle.refusals.specs.declared.refusal.Refusal.{Refusal}
use Rattle.refusals.specs.Question.{Question, refusal_by, question, all_yes, asked_of}
use Rattle.refusals.proofs.Questions.{after_refused, after_passed, asked_yes, all_first, all_member, all_append, append_left, append_right}
use Rattle.plan.specs.declared.windows.Window.{Window}
use Rattle.plan.specs.File.{plan_number, window_count, minimum_handover, end_of}
use Rattle.plan.specs.Validation.{greatest_count, greatest_end, plan_questions, AcceptedPlan}
use Rattle.tag_bytes.specs.Fields.{tag_length}
use Rattle.numbering.specs.{Tables.component_count, Numbering.built_as}
use Rattle.changing.specs.declared.records.Edit.{Edit}
use Rattle.changing.specs.declared.records.Edit.TheVariants.{Add, Withdraw}
use Rattle.changing.specs.declared.records.Change.{Change}
use Rattle.changing.specs.Change.{changed_file, adding, withdrawing}
use Rattle.changing.specs.Questions.{has_place, edit_questions, record_questions, AcceptedChange, both_fit, change_questions, change_answer_of}
use Rattle.changing.specs.Steps.{count_after, count_fits}
use Rattle.changing.proofs.Changed.{changed_whole}
use Rattle.changing.proofs.{Added.added_count, Added.added_accepted, Withdrawn.withdrawn_count, Withdrawn.withdrawn_accepted}

-- How many windows there are after a change that passes.
count_changed : (file : List ℕ) (plan minimum : ℕ) (edit : Edit) → all_yes (edit_questions edit minimum (window_count file)) ≡ true →
    window_count (changed_file file (record { plan = plan; edit = edit })) ≡ count_after edit (window_count file)
unfolding edit_questions count_after
count_changed file plan minimum (Add w) t = added_count file plan w
count_changed file plan minimum (Withdraw at) t =
    omega (arith, withdrawn_count file plan at (ltb-true at (window_count file) (and_left (ltb at (window_count file)) true t)))

module _ (file : List ℕ) (c : Change) (changed tags : ℕ) where
  -- 8, by that number.
  pub fits_both : asked_of (edit_questions c.edit (minimum_handover file) (window_count file)) ≡ Ok tt →
      both_fit file c changed tags ≡ count_fits (count_after c.edit (window_count file)) changed tags
  unfolding both_fit count_fits
  fits_both passed = rw (changed_whole file c, count_changed file c.plan (minimum_handover file) c.edit (asked_yes (edit_questions c.edit (minimum_handover file) (window_count file)) passed))

  pub change_15 : has_place c.edit (window_count file) ≡ false →
      Err (refusal_by 15) ≡ asked_of (record_questions file c ++ (question 8 (both_fit file c changed tags) ∷ []))
  unfolding record_questions
  change_15 t = rw t

  module _ (t : has_place c.edit (window_count file) ≡ true) where
    pub change_16 : c.plan ≡ plan_number file → Err (refusal_by 16) ≡ asked_of (record_questions file c ++ (question 8 (both_fit file c changed tags) ∷ []))
    unfolding record_questions
    change_16 e = rw (t, eq-eqb c.plan (plan_number file) e)

    module _ (other : c.plan ≡ plan_number file → ⊥) where
      on : asked_of (edit_questions c.edit (minimum_handover file) (window_count file) ++ (question 8 (both_fit file c changed tags) ∷ []))
          ≡ asked_of (record_questions file c ++ (question 8 (both_fit file c changed tags) ∷ []))
      unfolding record_questions
      on = rw (t, ne_eqb c.plan (plan_number file) other)

      pub change_refused : (r : Refusal) → asked_of (edit_questions c.edit (minimum_handover file) (window_count file)) ≡ Err r →
          Err r ≡ asked_of (record_questions file c ++ (question 8 (both_fit file c changed tags) ∷ []))
      change_refused r e =
          sym (after_refused (edit_questions c.edit (minimum_handover file) (window_count file)) Err (Ok tt) r e (question 8 (both_fit file c changed tags) ∷ [])) ∙ on

      module _ (passed : asked_of (edit_questions c.edit (minimum_handover file) (window_count file)) ≡ Ok tt) where
        past : asked_of (question 8 (count_fits (count_after c.edit (window_count file)) changed tags) ∷ [])
            ≡ asked_of (record_questions file c ++ (question 8 (both_fit file c changed tags) ∷ []))
        past = rw (← fits_both passed) (sym (after_passed (edit_questions c.edit (minimum_handover file) (window_count file)) Err (Ok tt) passed (question 8 (both_fit file c changed tags) ∷ [])) ∙ on)

        pub change_8 : count_fits (count_after c.edit (window_count file)) changed tags ≡ false →
            Err (refusal_by 8) ≡ asked_of (record_questions file c ++ (question 8 (both_fit file c changed tags) ∷ []))
        change_8 f = rw f at past

        pub change_passed : count_fits (count_after c.edit (window_count file)) changed tags ≡ true →
            Ok tt ≡ asked_of (record_questions file c ++ (question 8 (both_fit file c changed tags) ∷ []))
        change_passed f = rw f at past

module _ (file : List ℕ) (c : Change) where
  -- What passes the questions can be made, and there is room for it.
  pub asked_accepted : (changed tags : ℕ) → AcceptedPlan file → asked_of (record_questions file c ++ (question 8 (both_fit file c changed tags) ∷ [])) ≡ Ok tt →
      AcceptedChange file c × (length (changed_file file c) ≤ changed) × (tag_length * window_count (changed_file file c) ≤ tags)
  unfolding both_fit
  asked_accepted changed tags ok e =
      let own = record_questions file c in let long = leb (length (changed_file file c)) changed in
      let wide = leb (tag_length * window_count (changed_file file c)) tags in
      let room = question 8 (long && wide) ∷ [] in let all = asked_yes (own ++ room) e in
      let fits : (long && wide) ≡ true = and_left (long && wide) true (append_right own room all) in (
        all_append (plan_questions file) own ∙ and_intro _ _ ok (append_left own room all),
        leb-true _ _ (and_left long wide fits),
        leb-true _ _ (and_right long wide fits),
      )

  module _ (ok : AcceptedChange file c) where
    pub change_plan : AcceptedPlan file
    change_plan = append_left (plan_questions file) (record_questions file c) ok

    asked : (q : Question) → Memᴰ q (record_questions file c) → q.yes ≡ true
    asked = all_member (record_questions file c) (append_right (plan_questions file) (record_questions file c) ok)

    pub change_other : c.plan ≡ plan_number file → ⊥
    unfolding record_questions
    change_other e =
        eqb-false c.plan (plan_number file) (not-true _ (asked _ (Memᴰ.tail (Memᴰ.head refl)))) e

-- And no more is needed.
pub accept_change : (file : List ℕ) (c : Change) → AcceptedPlan file → has_place c.edit (window_count file) ≡ true → (c.plan ≡ plan_number file → ⊥) →
    all_yes (edit_questions c.edit (minimum_handover file) (window_count file)) ≡ true → AcceptedChange file c
unfolding record_questions
accept_change file c ok place other own =
    all_append (plan_questions file) (record_questions file c)
    ∙ and_intro _ _ ok (rw (place, ne_eqb c.plan (plan_number file) other, own))

-- What is known of an addition, and of a withdrawal.
pub change_added : (file : List ℕ) (plan : ℕ) (w : Window) → AcceptedChange file (adding plan w) →
    (window_count file < greatest_count) × (minimum_handover file ≤ w.length) × (end_of w ≤ greatest_end)
unfolding record_questions has_place edit_questions
change_added file plan w ok =
    let at = asked file (adding plan w) ok in (
      ltb-true _ _ (at _ (Memᴰ.head refl)),
      leb-true _ _ (at _ (Memᴰ.tail (Memᴰ.tail (Memᴰ.head refl)))),
      leb-true _ _ (at _ (Memᴰ.tail (Memᴰ.tail (Memᴰ.tail (Memᴰ.head refl))))),
    )

pub change_withdrawn : (file : List ℕ) (plan at : ℕ) → AcceptedChange file (withdrawing plan at) → at < window_count file
unfolding record_questions edit_questions
change_withdrawn file plan at ok =
    ltb-true _ _ (asked file (withdrawing plan at) ok _ (Memᴰ.tail (Memᴰ.tail (Memᴰ.head refl))))

-- The changed plan is an accepted plan.
accepted_by : (file : List ℕ) (plan : ℕ) (edit : Edit) → AcceptedChange file (record { plan = plan; edit = edit }) →
    AcceptedPlan (changed_file file (record { plan = plan; edit = edit }))
accepted_by file plan (Add w) ok =
    let known = change_added file plan w ok in
    added_accepted file plan w (change_plan file (adding plan w) ok) known.0 known.1 known.2
accepted_by file plan (Withdraw at) ok =
    withdrawn_accepted file plan at (change_withdrawn file plan at ok) (change_plan file (withdrawing plan at) ok)

pub change_accepted : (file : List ℕ) (c : Change) → AcceptedChange file c → AcceptedPlan (changed_file file c)
change_accepted file c ok = accepted_by file c.plan c.edit ok

-- With room, the change is answered so.
pub change_answered : (file : List ℕ) (c : Change) (changed tags : ℕ) → AcceptedChange file c → length (changed_file file c) ≤ changed →
    tag_length * window_count (changed_file file c) ≤ tags → change_answer_of file c changed tags
    ≡ built_as (plan_number (changed_file file c)) (window_count (changed_file file c)) (component_count (changed_file file c))
unfolding change_answer_of change_questions both_fit
change_answered file c changed tags ok long wide =
    let own = record_questions file c in
    let room = question 8 (leb (length (changed_file file c)) changed && leb (tag_length * window_count (changed_file file c)) tags) ∷ [] in
    let fits : all_yes room ≡ true = rw (le-leb _ _ long, le-leb _ _ wide) in
    all_first (plan_questions file ++ (own ++ room)) Err _ (all_append (plan_questions file) (own ++ room)
    ∙ and_intro _ _ (change_plan file c ok)
    (all_append own room ∙ and_intro _ _ (append_right (plan_questions file) own ok) fits))

-- 7 of a position to withdraw.
pub withdraw_7 : (at minimum windows : ℕ) → windows ≤ at → Err (refusal_by 7) ≡ asked_of (edit_questions (Withdraw at) minimum windows)
unfolding edit_questions
withdraw_7 at minimum windows past = rw (le-ltb at windows past)
