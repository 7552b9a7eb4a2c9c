-- What is known of an accepted plan: each of questions 1 to 6 and 14 is answered "yes", at every window. And the other way round.
-- Vocabulary: Sound, accepted_sound, sound_accepted, accepted_validated, validated_accepted, offsets_sorted.
-- Assumes nothing.
use Prim.Native.Nat.{ℕ, zero, suc, ◌+◌, ◌-◌, ◌≤◌, ◌<◌}
use mathlib.Core.{Bool.true, Path.◌≡◌, Path.refl, Path.◌∙◌, List.List, List.Memᴰ}
use native.Mathlib.Omega.{arith}
use lib.ListN.{length}
use lib.Dec.{leb}
use borrow.Author.Tests.{leb-true, eqb-true, le-leb, eq-eqb}
use Rattle.sequences.proofs.Tests.{and_left, and_right, and_intro}
use Rattle.refusals.specs.{declared.refusal.Refusal.Refusal, Question.Question, Question.each, Question.all_yes}
use Rattle.refusals.proofs.Questions.{all_first, first_all, all_member, all_append, append_left, append_right, all_each, each_all}
use Rattle.std.specs.Prelude.{Err}
use Rattle.plan.specs.Validation.{accepted_as}
use Rattle.plan.specs.File.{header_length, file_length, plan_number, window_count, minimum_handover, window_at, end_of}
use Rattle.plan.specs.Validation.{greatest_count, greatest_minimum, greatest_end, offset_before, window_questions, file_questions}
use Rattle.plan.specs.Validation.{plan_questions, AcceptedPlan, validate_answer_of}
use Rattle.plan.proofs.Validated.{windows_asked}

-- Acceptance is what `validate` answers.
refused_not_accepted : (plan n : ℕ) (r : Refusal) → Err r ≡ accepted_as plan n → ⊥
refused_not_accepted plan n r e = let z : ◌≡◌ {A = ℕ} 0 1 = cc in omega arith

pub accepted_validated : (file : List ℕ) → AcceptedPlan file → validate_answer_of file ≡ accepted_as (plan_number file) (window_count file)
unfolding validate_answer_of
accepted_validated file ok = all_first (plan_questions file) Err _ ok

pub validated_accepted : (file : List ℕ) → validate_answer_of file ≡ accepted_as (plan_number file) (window_count file) → AcceptedPlan file
unfolding validate_answer_of
validated_accepted file e = first_all (plan_questions file) Err _ (refused_not_accepted (plan_number file) (window_count file)) e

pub record Sound (file : List ℕ) : Type 0 where
  pub few : window_count file ≤ greatest_count
  pub least : 1 ≤ minimum_handover file
  pub most : minimum_handover file ≤ greatest_minimum
  pub whole : length file ≡ file_length (window_count file)
  pub long : (v : ℕ) → v < window_count file → minimum_handover file ≤ (window_at file v).length
  pub early : (v : ℕ) → v < window_count file → end_of (window_at file v) ≤ greatest_end
  pub sorted : (v : ℕ) → v < window_count file → offset_before file v ≤ (window_at file v).offset

pub accepted_sound : (file : List ℕ) → AcceptedPlan file → Sound file
unfolding plan_questions file_questions window_questions
accepted_sound file ok =
    let Q = windows_asked file in let n = window_count file in let r = append_right (file_questions file) (each Q 0 n) ok in
    let whole = all_member (file_questions file) (append_left (file_questions file) (each Q 0 n) ok) in
    let at : (v : ℕ) → v < n → (q : Question) → Memᴰ q (Q v) → q.yes ≡ true = λ v h. all_member (Q v) (all_each Q 0 n r v (omega arith) (omega arith)) in
    let passes = whole _ (Memᴰ.tail (Memᴰ.tail (Memᴰ.head refl))) in
    record {
      few = leb-true _ _ (whole _ (Memᴰ.tail (Memᴰ.head refl)));
      least = leb-true _ _ (and_left (leb 1 (minimum_handover file)) _ passes);
      most = leb-true _ _ (and_right (leb 1 (minimum_handover file)) _ passes);
      whole = eqb-true _ _ (whole _ (Memᴰ.tail (Memᴰ.tail (Memᴰ.tail (Memᴰ.head refl)))));
      long = λ v h. leb-true _ _ (at v h _ (Memᴰ.head refl));
      early = λ v h. leb-true _ _ (at v h _ (Memᴰ.tail (Memᴰ.head refl)));
      sorted = λ v h. leb-true _ _ (at v h _ (Memᴰ.tail (Memᴰ.tail (Memᴰ.head refl))));
    }

pub sound_accepted : (file : List ℕ) → Sound file → AcceptedPlan file
unfolding plan_questions file_questions window_questions
sound_accepted file s =
    let n = window_count file in let m = minimum_handover file in
    all_append (file_questions file) (each (windows_asked file) 0 n) ∙ and_intro (all_yes (file_questions file)) _
    (rw (
      le-leb header_length (length file) (omega (arith, s.whole)),
      le-leb n greatest_count s.few,
      le-leb 1 m s.least,
      le-leb m greatest_minimum s.most,
      eq-eqb (length file) (file_length n) s.whole,
    ))
    (each_all (windows_asked file) 0 n (λ v l h. let w = window_at file v in let i : v < n = omega arith in
    rw (le-leb m w.length (s.long v i), le-leb (end_of w) greatest_end (s.early v i), le-leb (offset_before file v) w.offset (s.sorted v i))))

offsets_rise : (file : List ℕ) → Sound file → (u k : ℕ) → u + k < window_count file → (window_at file u).offset ≤ (window_at file (u + k)).offset
unfolding offset_before
offsets_rise file s u zero h = let e : u + zero ≡ u = omega arith in rw e (omega arith)
offsets_rise file s u (suc k) h =
    let e : u + suc k ≡ suc (u + k) = omega arith in
    rw e (omega (arith, offsets_rise file s u k (omega arith), s.sorted (suc (u + k)) (omega arith)))

-- Offsets do not fall from any window to any later one.
pub offsets_sorted : (file : List ℕ) → Sound file → (u v : ℕ) → u ≤ v → v < window_count file → (window_at file u).offset ≤ (window_at file v).offset
offsets_sorted file s u v le h = let e : u + (v - u) ≡ v = omega arith in rw e at (offsets_rise file s u (v - u) (omega arith))

-- What the methods of a plan go by.
pub few_windows : (file : List ℕ) → AcceptedPlan file → window_count file ≤ greatest_count
few_windows file ok = (accepted_sound file ok).few

pub whole_file : (file : List ℕ) → AcceptedPlan file → length file ≡ file_length (window_count file)
whole_file file ok = (accepted_sound file ok).whole
