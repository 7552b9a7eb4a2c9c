-- Laws of a list of questions, however long: what one that is answered "yes" or "no" does to the answer, questions after others,
-- questions put to an input or about a window, and what it says that none is answered "no".
-- Vocabulary: first_*, asked_*, all_*, each_*, Asking, asking_*.
-- Assumes nothing.
use Prim.Native.Nat.{ℕ, zero, suc, ◌+◌, ◌-◌, ◌≤◌, ◌<◌}
use mathlib.Core.{Bool.true, Bool.false, Bool.◌&&◌, Path.◌≡◌, Path.refl, Path.sym, Path.◌∙◌, Logic.◌⊎◌, Logic.inl, Logic.inr, Logic.⊎_elim}
use mathlib.Core.List.Memᴰ
use mathlib.Core.List.{List, [], ◌∷◌, ◌++◌, Memᴰ}
use native.Mathlib.{Omega.arith, Numerals.add-one}
use borrow.Author.Tests.{ltb-true, lt-ltb, le-ltb}
use Rattle.sequences.proofs.Tests.{truth, and_left, and_right, and_intro, lt_or_ge}
use Rattle.refusals.specs.declared.refusal.Refusal.{Refusal}
use Rattle.std.specs.Prelude.{Result, Ok, Err, cond}
use Rattle.refusals.specs.Question.{Question, refusal_by, refusal_from, refusal_about, from, about, each, first_no, all_yes}
use Rattle.refusals.specs.Question.{asked_of, position_questions}

module _ {A : Type 0} (later : List Question) (refused : Refusal → A) (accepted : A) where
  -- A question that is answered "yes" is passed over.
  pub first_yes : (q : Question) → q.yes ≡ true → first_no (q ∷ later) refused accepted ≡ first_no later refused accepted
  first_yes q t = rw t

  -- The first that is answered "no" is the answer, whatever comes after it.
  pub first_no_lem : (q : Question) → q.yes ≡ false → first_no (q ∷ later) refused accepted ≡ refused q.refusal
  first_no_lem q t = rw t

-- Questions after others are what the first ones accept.
pub first_append : {A : Type 0} (qs later : List Question) (refused : Refusal → A) (accepted : A) →
    first_no (qs ++ later) refused accepted ≡ first_no qs refused (first_no later refused accepted)
first_append [] later refused accepted = refl
first_append (q ∷ qs) later refused accepted = rw (first_append qs later refused accepted)

-- Questions put to an input refuse as they would, with that input.
pub first_from : {A : Type 0} (input : ℕ) (qs : List Question) (refused : Refusal → A) (accepted : A) →
    first_no (from input qs) refused accepted ≡ first_no qs (λ r. refused (refusal_from input r)) accepted
first_from input [] refused accepted = refl
first_from input (q ∷ qs) refused accepted = rw (first_from input qs refused accepted)

-- Questions about a window refuse as they would, with its position.
pub first_about : {A : Type 0} (position : ℕ) (qs : List Question) (refused : Refusal → A) (accepted : A) →
    first_no (about position qs) refused accepted ≡ first_no qs (λ r. refused (refusal_about position r)) accepted
first_about position [] refused accepted = refl
first_about position (q ∷ qs) refused accepted = rw (first_about position qs refused accepted)

-- What is made of an answer is the answer made of its cases.
pub first_map : {A B : Type 0} (f : A → B) (qs : List Question) (refused : Refusal → A) (accepted : A) →
    f (first_no qs refused accepted) ≡ first_no qs (λ r. f (refused r)) (f accepted)
first_map f [] refused accepted = refl
first_map f (q ∷ qs) refused accepted = ⊎_elim (λ t. rw t (first_map f qs refused accepted)) (λ t. rw t) (truth q.yes)

-- The answer is what is accepted, or some refusal.
pub first_cases : {A : Type 0} (qs : List Question) (refused : Refusal → A) (accepted : A) →
    (first_no qs refused accepted ≡ accepted) ⊎ ((r : Refusal) × (first_no qs refused accepted ≡ refused r))
first_cases [] refused accepted = inl refl
first_cases (q ∷ qs) refused accepted = ⊎_elim (λ t. rw t (first_cases qs refused accepted)) (λ t. inr (q.refusal, rw t)) (truth q.yes)

-- An answer that is no refusal is what is accepted.
pub answer_accepted : {A : Type 0} (qs : List Question) (refused : Refusal → A) (accepted a : A) → ((r : Refusal) → refused r ≡ a → ⊥) →
    first_no qs refused accepted ≡ a → accepted ≡ a
answer_accepted qs refused accepted a apart e =
    ⊎_elim (λ same. sym same ∙ e) (λ r. absurd (apart r.0 (sym r.1 ∙ e))) (first_cases qs refused accepted)

-- The answer to questions, by what was answered when they were asked.
abbrev pub after_asked : {A : Type 0} → Result (Unit {0}) Refusal → (Refusal → A) → A → A
after_asked (Ok tt) refused accepted = accepted
after_asked (Err r) refused accepted = refused r

pub asked_first : {A : Type 0} (qs : List Question) (refused : Refusal → A) (accepted : A) →
    first_no qs refused accepted ≡ after_asked (asked_of qs) refused accepted
asked_first qs refused accepted = sym (first_map (λ a. after_asked a refused accepted) qs Err (Ok tt))

-- Questions after others that were asked: their refusal, or what the later ones answer.
module _ {A : Type 0} (qs later : List Question) (refused : Refusal → A) (accepted : A) (answer : Result (Unit {0}) Refusal) (asked : answer ≡ asked_of qs) where
  pub asked_refused : (r : Refusal) → answer ≡ Err r → refused r ≡ first_no (qs ++ later) refused accepted
  asked_refused r e =
      sym (first_append qs later refused accepted ∙ (asked_first qs refused (first_no later refused accepted) ∙ rw (← asked, e)))

  pub asked_passed : answer ≡ Ok tt → first_no later refused accepted ≡ first_no (qs ++ later) refused accepted
  asked_passed e =
      sym (first_append qs later refused accepted ∙ (asked_first qs refused (first_no later refused accepted) ∙ rw (← asked, e)))

-- What was answered when the first questions were asked says what the answer to them and later ones is; and the same with none after them.
module _ {A : Type 0} (qs : List Question) (refused : Refusal → A) (accepted : A) where
  pub after_passed : asked_of qs ≡ Ok tt → (later : List Question) → first_no (qs ++ later) refused accepted ≡ first_no later refused accepted
  after_passed e later = sym (asked_passed qs later refused accepted (asked_of qs) refl e)

  pub after_refused : (r : Refusal) → asked_of qs ≡ Err r → (later : List Question) → first_no (qs ++ later) refused accepted ≡ refused r
  after_refused r e later = sym (asked_refused qs later refused accepted (asked_of qs) refl r e)

  pub all_passed : asked_of qs ≡ Ok tt → first_no qs refused accepted ≡ accepted
  all_passed e = asked_first qs refused accepted ∙ rw e

  pub one_refused : (r : Refusal) → asked_of qs ≡ Err r → first_no qs refused accepted ≡ refused r
  one_refused r e = asked_first qs refused accepted ∙ rw e

-- No question is answered "no".

-- Then the answer is what is accepted.
pub all_first : {A : Type 0} (qs : List Question) (refused : Refusal → A) (accepted : A) → all_yes qs ≡ true → first_no qs refused accepted ≡ accepted
all_first [] refused accepted t = refl
all_first (q ∷ qs) refused accepted t =
    first_yes qs refused accepted q (and_left q.yes (all_yes qs) t) ∙ all_first qs refused accepted (and_right q.yes (all_yes qs) t)

-- Where the answer is what is accepted, and no refusal is that, no question is answered "no".
pub first_all : {A : Type 0} (qs : List Question) (refused : Refusal → A) (accepted : A) → ((r : Refusal) → refused r ≡ accepted → ⊥) →
    first_no qs refused accepted ≡ accepted → all_yes qs ≡ true
first_all [] refused accepted apart e = refl
first_all (q ∷ qs) refused accepted apart e =
    ⊎_elim (λ t. and_intro q.yes (all_yes qs) t (first_all qs refused accepted apart (sym (first_yes qs refused accepted q t) ∙ e)))
    (λ t. absurd (apart q.refusal (sym (first_no_lem qs refused accepted q t) ∙ e))) (truth q.yes)

-- Of questions that were asked and passed none is.
pub passed_all : (qs : List Question) → Ok tt ≡ asked_of qs → all_yes qs ≡ true
passed_all [] e = refl
passed_all (q ∷ qs) e =
    elim q.yes as (λ b. Ok tt ≡ cond b (asked_of qs) (Err q.refusal) → (b && all_yes qs) ≡ true) [
      | true ↦ passed_all qs
      | false ↦ λ (k : Ok tt ≡ Err q.refusal). cc
    ] e

-- Each of them is answered "yes".
pub all_member : (qs : List Question) → all_yes qs ≡ true → (q : Question) → Memᴰ q qs → q.yes ≡ true
all_member [] t q m = absurd (Memᴰ.not-nil m)
all_member (p ∷ qs) t q m =
    ⊎_elim (λ same. rw same (and_left p.yes (all_yes qs) t)) (λ later. all_member qs (and_right p.yes (all_yes qs) t) q later)
    (Memᴰ.cases_cons m)

-- Questions put to an input, or about a window, pass as they would.
pub all_from : (input : ℕ) (qs : List Question) → all_yes (from input qs) ≡ all_yes qs
all_from input [] = refl
all_from input (q ∷ qs) = rw (all_from input qs)

pub all_about : (position : ℕ) (qs : List Question) → all_yes (about position qs) ≡ all_yes qs
all_about position [] = refl
all_about position (q ∷ qs) = rw (all_about position qs)

-- Questions one after another pass exactly if both do.
pub all_append : (qs later : List Question) → all_yes (qs ++ later) ≡ (all_yes qs && all_yes later)
all_append [] later = refl
all_append (q ∷ qs) later = rw (all_append qs later) (⊎_elim (λ t. rw t) (λ t. rw t) (truth q.yes))

pub append_left : (qs later : List Question) → all_yes (qs ++ later) ≡ true → all_yes qs ≡ true
append_left qs later t = and_left (all_yes qs) (all_yes later) (sym (all_append qs later) ∙ t)

pub append_right : (qs later : List Question) → all_yes (qs ++ later) ≡ true → all_yes later ≡ true
append_right qs later t = and_right (all_yes qs) (all_yes later) (sym (all_append qs later) ∙ t)

-- Questions window after window pass exactly if those about each window do.
module _ (questions : ℕ → List Question) where
  pub each_all : (v k : ℕ) → ((u : ℕ) → v ≤ u → u < v + k → all_yes (questions u) ≡ true) → all_yes (each questions v k) ≡ true
  unfolding each
  each_all v zero h = refl
  each_all v (suc k) h =
      all_append (about v (questions v)) (each questions (suc v) k)
      ∙ and_intro (all_yes (about v (questions v))) (all_yes (each questions (suc v) k)) (all_about v (questions v) ∙ h v (omega arith) (omega arith))
      (each_all (suc v) k (λ u l r. h u (omega arith) (omega arith)))

  pub all_each : (v k : ℕ) → all_yes (each questions v k) ≡ true → (u : ℕ) → v ≤ u → u < v + k → all_yes (questions u) ≡ true
  unfolding each
  all_each v zero t u l r = absurd (omega arith)
  all_each v (suc k) t u l r =
      ⊎_elim (λ h. all_each (suc v) k (append_right (about v (questions v)) (each questions (suc v) k) t) u h (omega arith))
      (λ h. let e : u ≡ v = omega arith in
      rw e (sym (all_about v (questions v)) ∙ append_left (about v (questions v)) (each questions (suc v) k) t)) (lt_or_ge v u)

-- A pass that asks window after window, before the window at v: the questions that are left give the answer of all.
pub record Asking {A : Type 0} (questions : ℕ → List Question) (refused : Refusal → A) (accepted : A) (n v : ℕ) : Type 0 where
  pub within : v ≤ n
  pub left : first_no (each questions v (n - v)) refused accepted ≡ first_no (each questions 0 n) refused accepted

module _ {A : Type 0} (questions : ℕ → List Question) (refused : Refusal → A) (accepted : A) (n : ℕ) where
  pub asking_start : Asking questions refused accepted n 0
  asking_start = let e : n - 0 ≡ n = omega arith in record { within = omega arith; left = rw e }

  pub asking_end : (v : ℕ) → n ≤ v → Asking questions refused accepted n v → accepted ≡ first_no (each questions 0 n) refused accepted
  unfolding each
  asking_end v done s = let e : n - v ≡ 0 = omega arith in rw e at s.left

  module _ (v : ℕ) (inside : v < n) (s : Asking questions refused accepted n v) where
    -- What is left, by what is answered about the window at v.
    here : first_no (each questions v (n - v)) refused accepted ≡ after_asked (asked_of (questions v)) (λ r. refused (refusal_about v r))
        (first_no (each questions (v + 1) (n - (v + 1))) refused accepted)
    unfolding each
    here =
        let e : n - v ≡ suc (n - (v + 1)) = omega arith in
        rw (e, add-one v) (first_append (about v (questions v)) (each questions (suc v) (n - suc v)) refused accepted
        ∙ (first_about v (questions v) refused _ ∙ asked_first (questions v) _ _))

    -- One window more that passes.
    pub asking_turn : (Ok tt) ≡ asked_of (questions v) → Asking questions refused accepted n (v + 1)
    asking_turn e = record { within = omega arith; left = sym (here ∙ rw (← e)) ∙ s.left }

    -- A window that is refused is the answer, at its position.
    pub asking_refused : (r : Refusal) → Err r ≡ asked_of (questions v) → refused (refusal_about v r) ≡ first_no (each questions 0 n) refused accepted
    asking_refused r e = sym (here ∙ rw (← e)) ∙ s.left

-- Two named positions.
module _ (first second windows : ℕ) where
  pub first_beyond : windows ≤ first → Err (refusal_by 7) ≡ asked_of (position_questions first second windows)
  first_beyond h = rw (le-ltb first windows h)

  pub second_beyond : first < windows → windows ≤ second → Err (refusal_from 1 (refusal_by 7)) ≡ asked_of (position_questions first second windows)
  second_beyond l h = rw (lt-ltb first windows l, le-ltb second windows h)

  pub both_within : first < windows → second < windows → Ok tt ≡ asked_of (position_questions first second windows)
  both_within l r = rw (lt-ltb first windows l, lt-ltb second windows r)

  -- Positions that pass are those of windows.
  pub passed_within : (Ok tt) ≡ asked_of (position_questions first second windows) → (first < windows) × (second < windows)
  passed_within e =
      let qs = position_questions first second windows in let all = all_member qs (passed_all qs e) in
      (ltb-true _ _ (all _ (Memᴰ.head refl)), ltb-true _ _ (all _ (Memᴰ.tail (Memᴰ.head refl))))

-- Questions window after window, from the one at v on: none is left, or those about v come first.
module _ (questions : ℕ → List Question) (v n : ℕ) where
  pub left_none : n ≤ v → asked_of (each questions v (n - v)) ≡ Ok tt
  unfolding each
  left_none h = let e : n - v ≡ 0 = omega arith in rw (e, each) refl

  left_more : v < n → each questions v (n - v) ≡ about v (questions v) ++ each questions (v + 1) (n - (v + 1))
  unfolding each
  left_more h = let e : n - v ≡ suc (n - (v + 1)) = omega arith in rw (e, each, add-one) refl

  pub left_passed : v < n → asked_of (about v (questions v)) ≡ Ok tt →
      asked_of (each questions v (n - v)) ≡ asked_of (each questions (v + 1) (n - (v + 1)))
  left_passed h passed = rw (left_more h) (after_passed (about v (questions v)) Err (Ok tt) passed (each questions (v + 1) (n - (v + 1))))

  pub left_refused : (r : Refusal) → v < n → asked_of (about v (questions v)) ≡ Err r → asked_of (each questions v (n - v)) ≡ Err r
  left_refused r h refused = rw (left_more h) (after_refused (about v (questions v)) Err (Ok tt) r refused (each questions (v + 1) (n - (v + 1))))

pub ruleset window_after_window = (left_none, left_passed, left_refused)

-- What was asked and passed is answered "yes", and the other way round.
pub asked_yes : (qs : List Question) → asked_of qs ≡ Ok tt → all_yes qs ≡ true
asked_yes qs e = passed_all qs (sym e)

pub yes_asked : (qs : List Question) → all_yes qs ≡ true → asked_of qs ≡ Ok tt
yes_asked qs t = all_first qs Err (Ok tt) t

-- For functions that ask in turn: a question after others, or none after them.
pub ruleset in_turn = (after_passed, after_refused, all_passed, one_refused, asked_yes, yes_asked)
