-- Laws of the answer from two tags: by their readings, by the numbers of two that are read, in either order, for a tag with
-- itself, and how large a count can be; and for two positions of a tag file. Where nothing is said of the form, they hold of long and short tags.
-- Vocabulary: in_turn, first_refused, second_refused, both_valid, turned_round, pair_*, compared_*, agreeing_*, Places, at_*, places_*.
-- Assumes nothing.
use Prim.Native.Nat.{ℕ, ◌/◌, ◌%◌, ◌≤◌, ◌<◌}
use mathlib.Core.{Bool.true, Bool.false, Bool.cond, Path.◌≡◌, Path.refl, Path.sym, Path.ap, Path.◌∙◌, Logic.⊎_elim, List.List, List.◌++◌}
use mathlib.Core.List.Memᴰ
use native.Mathlib.Omega.{arith}
use lib.Dec.{eqb}
use lib.ListN.{length}
use borrow.Author.Tests.{eq-eqb, ne_eqb, eqb-true, ltb-true}
use Rattle.std.specs.Prelude.{Result, Ok, Err}
use Rattle.sequences.proofs.Tests.{eqb_symmetric, truth}
use Rattle.interval_graph.specs.Numbers.{Numbers, Outcome, apart, no_chain, equal, comes_first, outcome_by, between, outcome}
use Rattle.interval_graph.proofs.Outcome.{equal_refl, equal_symmetric, outcome_equal, outcome_components}
use Rattle.interval_graph.proofs.Outcome.{outcome_first, outcome_second, outcome_symmetric, outcome_most}
use Rattle.refusals.specs.declared.Refusal.{Refusal}
use Rattle.refusals.specs.Question.{Question, refusal_by, refusal_from, from, first_no, asked_of, position_questions}
use Rattle.refusals.proofs.Questions.{first_append, first_from, answer_accepted, after_asked, asked_first, asked_refused}
use Rattle.refusals.proofs.Questions.{asked_passed, passed_all, first_all, all_member, all_from, append_left, append_right, passed_within}
use Rattle.tag_bytes.specs.declared.Tag.{Tag}
use Rattle.tag_bytes.specs.Fields.{tag_length, field_limit, tag_of, numbers, tag_with, tag_bytes, within_limit}
use Rattle.tag_bytes.specs.Reading.{tag_questions, read_questions, read_answer_of}
use Rattle.tag_bytes.specs.TagFile.{tag_file, tag_count, part_of, tag_part, lookup_part}
use Rattle.tag_bytes.proofs.Fields.{Within, within_limit_lem, numbers-tag_with}
use Rattle.tag_bytes.proofs.Reading.{reading, reads_shown, questions_valid, questions_refused}
use Rattle.tag_bytes.proofs.Writing.{tag_bytes_read}
use Rattle.tag_bytes.proofs.TagFile.{lookup_found, part_found, lookup_position, length-tag_file, tag_file_lookup}
use Rattle.tag.specs.declared.pairs.PairAnswer.{PairAnswer}
use Rattle.tag.specs.declared.pairs.PairAnswer.TheVariants.{Handovers, NoChain, Refused}
use Rattle.tag.specs.Pairing.{agreeing, compare_questions, tags_questions, pair_questions, answer_of, compared_by, compared_of, pair_answer_by, pair_answer_of}
use Rattle.tag.specs.Pairing.{places_in, place_questions, pair_at_by, pair_at_answer_of}

-- A reading speaks of a first input.
pub first_input : (wide : ℕ) (bytes : List ℕ) (n : Numbers) → from 0 (tag_questions wide bytes n) ≡ tag_questions wide bytes n
first_input wide bytes n = refl

first_asked : (qs : List Question) → from 0 qs ≡ qs → (accepted : PairAnswer) →
    first_no qs Refused accepted ≡ first_no qs (λ r. Refused (refusal_from 0 r)) accepted
first_asked qs own accepted = ap (λ q. first_no q Refused accepted) (sym own) ∙ first_from 0 qs Refused accepted

-- The questions to the first tag, to the second, and to both.
pub in_turn : (rule : Numbers → Numbers → ℕ) (first second : List Question) (u v : Numbers) → from 0 first ≡ first →
    first_no (tags_questions first second u v) Refused (answer_of (outcome_by rule u v))
    ≡ first_no first (λ r. Refused (refusal_from 0 r)) (first_no second (λ r. Refused (refusal_from 1 r)) (compared_by rule u v))
unfolding compared_by
in_turn rule first second u v own =
    rw (first_append, first_from, first_append, first_from)
    (first_asked first own _)

-- The answer from two byte strings, by their readings: of a form with a width, the label that bytes hold, its numbers and a rule.
module _ {T : Type 0} (wide : ℕ) (label_of : List ℕ → T) (numbers_in : T → Numbers) (rule : Numbers → Numbers → ℕ) where
  abbrev pub answered : (first second : List ℕ) → PairAnswer
  answered first second = pair_answer_by wide rule first second (numbers_in (label_of first)) (numbers_in (label_of second))

  module _ (first second : List ℕ) where
    asked_in_turn : answered first second
        ≡ first_no (tag_questions wide first (numbers_in (label_of first))) (λ r. Refused (refusal_from 0 r))
        (first_no (tag_questions wide second (numbers_in (label_of second))) (λ r. Refused (refusal_from 1 r))
        (compared_by rule (numbers_in (label_of first)) (numbers_in (label_of second))))
    unfolding pair_answer_by
    asked_in_turn =
        in_turn rule (tag_questions wide first (numbers_in (label_of first))) (tag_questions wide second (numbers_in (label_of second))) _ _
        (first_input wide first (numbers_in (label_of first)))

    pub first_refused : (r : Refusal) → reading wide label_of numbers_in first ≡ Err r → answered first second ≡ Refused (refusal_from 0 r)
    first_refused r e = asked_in_turn ∙ questions_refused wide label_of numbers_in first (λ x. Refused (refusal_from 0 x)) _ r e

    pub second_refused : (a : T) (r : Refusal) → reading wide label_of numbers_in first ≡ Ok a → reading wide label_of numbers_in second ≡ Err r →
        answered first second ≡ Refused (refusal_from 1 r)
    second_refused a r e g =
        asked_in_turn ∙ (questions_valid wide label_of numbers_in first (λ x. Refused (refusal_from 0 x)) _ a e
        ∙ questions_refused wide label_of numbers_in second (λ x. Refused (refusal_from 1 x)) _ r g)

    pub both_valid : (a b : T) → reading wide label_of numbers_in first ≡ Ok a → reading wide label_of numbers_in second ≡ Ok b →
        answered first second ≡ compared_by rule (numbers_in a) (numbers_in b)
    both_valid a b e g =
        asked_in_turn ∙ (questions_valid wide label_of numbers_in first (λ x. Refused (refusal_from 0 x)) _ a e
        ∙ (questions_valid wide label_of numbers_in second (λ x. Refused (refusal_from 1 x)) _ b g
        ∙ rw ((reads_shown wide label_of numbers_in first a e).holds, (reads_shown wide label_of numbers_in second b g).holds)))

-- Of long tags:
module _ (first second : List ℕ) where
  -- "A tag that is refused ends the pair call there, before the second tag is read": nothing is asked of the second.
  pub pair_first_refused : (r : Refusal) → read_answer_of first ≡ Err r → pair_answer_of first second ≡ Refused (refusal_from 0 r)
  pair_first_refused = first_refused tag_length tag_of numbers between first second

  -- A second tag that is refused after a first that is not.
  pub pair_second_refused : (a : Tag) (r : Refusal) → read_answer_of first ≡ Ok a → read_answer_of second ≡ Err r →
      pair_answer_of first second ≡ Refused (refusal_from 1 r)
  pair_second_refused = second_refused tag_length tag_of numbers between first second

  -- Two tags that are both read answer by their numbers.
  pub pair_valid : (a b : Tag) → read_answer_of first ≡ Ok a → read_answer_of second ≡ Ok b →
      pair_answer_of first second ≡ compared_of (numbers a) (numbers b)
  pair_valid = both_valid tag_length tag_of numbers between first second

-- The answer from the numbers of two tags by a rule, case by case.
module _ (rule : Numbers → Numbers → ℕ) (u v : Numbers) where
  -- Tags of two plans are refused by 11.
  pub compared_11 : (u.plan ≡ v.plan → ⊥) → Refused (refusal_from 1 (refusal_by 11)) ≡ compared_by rule u v
  unfolding compared_by
  compared_11 other = rw (ne_eqb _ _ other)

  -- Past question 11 the answer is by question 12 and then by the rule.
  pub compared_rule : u.plan ≡ v.plan → agreeing u v ≡ true → answer_of (outcome_by rule u v) ≡ compared_by rule u v
  unfolding compared_by
  compared_rule one t = rw (eq-eqb _ _ one, t)

  -- Equal tags have one component and one rank.
  unequal_component : (u.component ≡ v.component → ⊥) → equal u v ≡ false
  unfolding equal
  unequal_component other =
      rw (ne_eqb _ _ other) (⊎_elim (λ t. rw t) (λ t. rw t) (truth (eqb u.plan v.plan)))

  unequal_rank : (u.rank ≡ v.rank → ⊥) → equal u v ≡ false
  unfolding equal
  unequal_rank other =
      rw (ne_eqb _ _ other) (⊎_elim (λ t. rw t (⊎_elim (λ s. rw s (⊎_elim (λ r. rw r) (λ r. rw r) (truth (eqb u.depth v.depth)))) (λ s. rw s)
      (truth (eqb u.component v.component)))) (λ t. rw t) (truth (eqb u.plan v.plan)))

  module _ (one : u.plan ≡ v.plan) where
    -- "different components no chain": question 12 is answered "yes" there.
    pub compared_components : (u.component ≡ v.component → ⊥) → NoChain ≡ compared_by rule u v
    unfolding agreeing
    compared_components other =
        sym (ap answer_of (outcome_components rule u v (unequal_component other) other)) ∙ compared_rule one (rw (ne_eqb _ _ other))

    module _ (same : u.component ≡ v.component) where
      -- In one component and with one rank it asks whether the tags are equal.
      pub agreeing_equal : u.rank ≡ v.rank → agreeing u v ≡ equal u v
      unfolding agreeing
      agreeing_equal r = rw (eq-eqb _ _ same, eq-eqb _ _ r)

      pub compared_12 : u.rank ≡ v.rank → equal u v ≡ false → Refused (refusal_from 1 (refusal_by 12)) ≡ compared_by rule u v
      unfolding compared_by
      compared_12 r t = rw (eq-eqb _ _ one, agreeing_equal r, t)

      -- "Equal tags give 0"
      pub compared_equal : u.rank ≡ v.rank → equal u v ≡ true → Handovers 0 ≡ compared_by rule u v
      compared_equal r t = sym (ap answer_of (outcome_equal rule u v t)) ∙ compared_rule one (agreeing_equal r ∙ t)

      -- With two ranks it is answered "yes", and the tag that comes first is u, or it is v.
      module _ (other : u.rank ≡ v.rank → ⊥) where
        agreeing_ranks : agreeing u v ≡ true
        unfolding agreeing
        agreeing_ranks = rw (eq-eqb _ _ same, ne_eqb _ _ other)

        pub compared_first : comes_first u v ≡ true → Handovers (rule u v) ≡ compared_by rule u v
        compared_first f = sym (ap answer_of (outcome_first rule u v (unequal_rank other) same f)) ∙ compared_rule one agreeing_ranks

        pub compared_second : comes_first u v ≡ false → Handovers (rule v u) ≡ compared_by rule u v
        compared_second f = sym (ap answer_of (outcome_second rule u v (unequal_rank other) same f)) ∙ compared_rule one agreeing_ranks

-- So two tags of one component and two ranks answer by the rule, with the one that comes first in front.
pub compared_ranks : (rule : Numbers → Numbers → ℕ) (u v : Numbers) → u.plan ≡ v.plan → u.component ≡ v.component → (u.rank ≡ v.rank → ⊥) →
    Handovers (cond (comes_first u v) (rule u v) (rule v u)) ≡ compared_by rule u v
compared_ranks rule u v one same other =
    ⊎_elim (λ f. rw f (compared_first rule u v one same other f)) (λ f. rw f (compared_second rule u v one same other f)) (truth (comes_first u v))

-- Question 12 does not depend on the order of the tags.
pub agreeing_symmetric : (u v : Numbers) → agreeing u v ≡ agreeing v u
unfolding agreeing
agreeing_symmetric u v = rw (eqb_symmetric u.component v.component, eqb_symmetric u.rank v.rank, equal_symmetric u v)

-- Nor does the answer from two tags' numbers by a rule that does not mind it, a refusal by 11 or 12 included.
pub compared_turned : (rule : Numbers → Numbers → ℕ) (u v : Numbers) → outcome_by rule u v ≡ outcome_by rule v u → compared_by rule u v ≡ compared_by rule v u
unfolding compared_by
compared_turned rule u v turned = rw (eqb_symmetric u.plan v.plan, agreeing_symmetric u v, turned)

pub compared_symmetric : (u v : Numbers) → compared_of u v ≡ compared_of v u
compared_symmetric u v = compared_turned between u v (outcome_symmetric u v)

-- Two byte strings that both read answer the same in either order, a refusal by 11 or 12 included.
pub turned_round : {T : Type 0} (wide : ℕ) (label_of : List ℕ → T) (numbers_in : T → Numbers) (rule : Numbers → Numbers → ℕ) →
    ((u v : Numbers) → outcome_by rule u v ≡ outcome_by rule v u) → (first second : List ℕ) (a b : T) →
    reading wide label_of numbers_in first ≡ Ok a → reading wide label_of numbers_in second ≡ Ok b →
    answered wide label_of numbers_in rule first second ≡ answered wide label_of numbers_in rule second first
turned_round wide label_of numbers_in rule turned first second a b e g =
    both_valid wide label_of numbers_in rule first second a b e g
    ∙ (compared_turned rule (numbers_in a) (numbers_in b) (turned (numbers_in a) (numbers_in b)) ∙ sym (both_valid wide label_of numbers_in rule second first b a g e))

pub pair_symmetric : (first second : List ℕ) (a b : Tag) → read_answer_of first ≡ Ok a → read_answer_of second ≡ Ok b →
    pair_answer_of first second ≡ pair_answer_of second first
pair_symmetric = turned_round tag_length tag_of numbers between outcome_symmetric

-- The answer from the bytes of two tags within the limit is that from their numbers.
pub pair_tag_bytes : (u v : Numbers) → within_limit u ≡ true → within_limit v ≡ true → pair_answer_of (tag_bytes u) (tag_bytes v) ≡ compared_of u v
pair_tag_bytes u v hu hv =
    pair_valid (tag_bytes u) (tag_bytes v) (tag_with u) (tag_with v) (tag_bytes_read u hu) (tag_bytes_read v hv)
    ∙ rw (numbers-tag_with u, numbers-tag_with v)

-- So is the answer from two tags that are looked up in a tag file.
pub pair_tag_file : (f : ℕ → Numbers) (n u v : ℕ) → u < n → v < n → within_limit (f u) ≡ true → within_limit (f v) ≡ true →
    pair_answer_of (lookup_part (tag_file f n) u) (lookup_part (tag_file f n) v) ≡ compared_of (f u) (f v)
pair_tag_file f n u v hu hv wu wv = rw (tag_file_lookup f n u hu, tag_file_lookup f n v hv) (pair_tag_bytes (f u) (f v) wu wv)

-- A tag that is read is 0 handovers from itself.
pub pair_itself : (bytes : List ℕ) (t : Tag) → read_answer_of bytes ≡ Ok t → pair_answer_of bytes bytes ≡ Handovers 0
pair_itself bytes t e =
    pair_valid bytes bytes t t e e
    ∙ sym (compared_equal between (numbers t) (numbers t) refl refl refl (equal_refl (numbers t)))

-- A number of handovers is what the rule says of two tags within the limit.
pub record Counted (u v : Numbers) (k : ℕ) : Type 0 where
  pub first : Within u
  pub second : Within v
  pub count : outcome u v ≡ apart k

refused_not_counted : (k : ℕ) (r : Refusal) → Refused r ≡ Handovers k → ⊥
refused_not_counted k r e = let z : ◌≡◌ {A = ℕ} 0 1 = cc in omega arith

answer_counts : (o : Outcome) (k : ℕ) → answer_of o ≡ Handovers k → o ≡ apart k
answer_counts (apart m) k e = let same : m ≡ k = cc in ap apart same
answer_counts no_chain k e = let z : ◌≡◌ {A = ℕ} 0 1 = cc in absurd (omega arith)

-- A pair that is answered by a number shows all of that.
pub pair_counted : (first second : List ℕ) (k : ℕ) → pair_answer_of first second ≡ Handovers k → Counted (numbers (tag_of first)) (numbers (tag_of second)) k
unfolding pair_answer_by
pair_counted first second k e =
    let u = numbers (tag_of first) in
    let v = numbers (tag_of second) in
    let accepted : answer_of (outcome u v) ≡ Handovers k = answer_accepted (pair_questions first second) Refused _ (Handovers k) (refused_not_counted k) e in
    let passed = first_all (pair_questions first second) Refused _ (λ r g. refused_not_counted k r (g ∙ accepted)) (e ∙ sym accepted) in
    let later = read_questions second ++ compare_questions u v in
    let rest = sym (all_from 1 later) ∙ append_right (read_questions first) (from 1 later) passed in
    record {
      first = within_limit_lem u (all_member (read_questions first) (append_left (read_questions first) (from 1 later) passed) _
          (Memᴰ.tail (Memᴰ.head refl)));
      second = within_limit_lem v (all_member (read_questions second) (append_left (read_questions second) (compare_questions u v) rest) _
          (Memᴰ.tail (Memᴰ.head refl)));
      count = answer_counts (outcome u v) k accepted;
    }

-- A count is at most two more than the limit of a field: 2,049, which two bytes hold.
pub pair_most : (first second : List ℕ) (k : ℕ) → pair_answer_of first second ≡ Handovers k → k ≤ 2049
pair_most first second k e =
    let h = pair_counted first second k e in
    outcome_most _ _ field_limit k h.first.depth h.second.depth h.count

-- Two places in a file of tags that have so many bytes: 9, and 7.
pub record Places (wide : ℕ) (tags : List ℕ) (first second : ℕ) : Type 0 where
  pub whole : length tags % wide ≡ 0
  pub first_there : first < length tags / wide
  pub second_there : second < length tags / wide

module _ (wide : ℕ) (tags : List ℕ) (first second : ℕ) where
  pub at_9 : (length tags % wide ≡ 0 → ⊥) → Err (refusal_by 9) ≡ asked_of (places_in wide tags first second)
  at_9 other = rw (ne_eqb (length tags % wide) 0 other)

  pub at_whole : length tags % wide ≡ 0 → asked_of (position_questions first second (length tags / wide)) ≡ asked_of (places_in wide tags first second)
  at_whole whole = rw (eq-eqb (length tags % wide) 0 whole)

  pub at_passed : Ok tt ≡ asked_of (places_in wide tags first second) → Places wide tags first second
  at_passed e =
      let all = all_member (places_in wide tags first second) (passed_all (places_in wide tags first second) e) in
      record {
        whole = eqb-true _ _ (all _ (Memᴰ.head refl));
        first_there = ltb-true _ _ (all _ (Memᴰ.tail (Memᴰ.head refl)));
        second_there = ltb-true _ _ (all _ (Memᴰ.tail (Memᴰ.tail (Memᴰ.head refl))));
      }

  -- The answer for two positions by what the places answered, of any form.
  module _ (rule : Numbers → Numbers → ℕ) (u v : Numbers) (answer : Result (Unit {0}) Refusal) (e : answer ≡ asked_of (places_in wide tags first second)) where
    pub at_refused : (r : Refusal) → answer ≡ Err r → Refused r ≡ pair_at_by wide rule tags first second u v
    unfolding pair_at_by
    at_refused =
        asked_refused (places_in wide tags first second)
        (tags_questions (tag_questions wide (part_of wide tags first) u) (tag_questions wide (part_of wide tags second) v) u v) Refused
        (answer_of (outcome_by rule u v)) answer e

    pub at_parts : answer ≡ Ok tt → pair_answer_by wide rule (part_of wide tags first) (part_of wide tags second) u v ≡ pair_at_by wide rule tags first second u v
    unfolding pair_answer_by pair_at_by
    at_parts =
        asked_passed (places_in wide tags first second)
        (tags_questions (tag_questions wide (part_of wide tags first) u) (tag_questions wide (part_of wide tags second) v) u v) Refused
        (answer_of (outcome_by rule u v)) answer e

-- The answer for two positions of a tag file: 9, 7, and then the two tags.
module _ (tags : List ℕ) (first second : ℕ) where
  pub places_9 : (length tags % tag_length ≡ 0 → ⊥) → Err (refusal_by 9) ≡ asked_of (place_questions tags first second)
  places_9 = at_9 tag_length tags first second

  places_found : Ok tt ≡ asked_of (place_questions tags first second) →
      (lookup_part tags first ≡ tag_part tags first) × (lookup_part tags second ≡ tag_part tags second)
  places_found e =
      let p = at_passed tag_length tags first second e in (
        part_found tags first (sym (lookup_found tags first p.whole p.first_there)),
        part_found tags second (sym (lookup_found tags second p.whole p.second_there)),
      )

  module _ (answer : Result (Unit {0}) Refusal) (e : answer ≡ asked_of (place_questions tags first second)) where
    pub pair_at_refused : (r : Refusal) → answer ≡ Err r → Refused r ≡ pair_at_answer_of tags first second
    pair_at_refused = at_refused tag_length tags first second between _ _ answer e

    pub pair_at_passed : answer ≡ Ok tt → pair_answer_of (lookup_part tags first) (lookup_part tags second) ≡ pair_at_answer_of tags first second
    pair_at_passed p =
        let found = places_found (sym p ∙ e) in
        rw (found.0, found.1) (at_parts tag_length tags first second between _ _ answer e p)

  pub pair_at_asked : length tags % tag_length ≡ 0 → pair_at_answer_of tags first second
      ≡ after_asked (asked_of (position_questions first second (tag_count tags))) Refused (pair_answer_of (tag_part tags first) (tag_part tags second))
  unfolding pair_at_by pair_answer_by
  pair_at_asked whole =
      rw (eq-eqb (length tags % tag_length) 0 whole)
      (first_append (position_questions first second (tag_count tags)) (pair_questions (tag_part tags first) (tag_part tags second)) Refused _
      ∙ asked_first (position_questions first second (tag_count tags)) Refused _)

-- In a tag file of n tags that is the pair call on the two parts that a lookup hands back.
pub pair_at_tag_file : (f : ℕ → Numbers) (n first second : ℕ) →
    pair_at_answer_of (tag_file f n) first second ≡ first_no (position_questions first second n) Refused
    (pair_answer_of (lookup_part (tag_file f n) first) (lookup_part (tag_file f n) second))
pair_at_tag_file f n first second =
    let long = length-tag_file f n in
    let counted : length (tag_file f n) / tag_length ≡ n = omega arith in
    pair_at_asked (tag_file f n) first second (omega arith) ∙ (rw counted (passed-parts (asked_of (position_questions first second n)) refl)
    ∙ sym (asked_first (position_questions first second n) Refused _))
  where
    passed-parts : (a : Result (Unit {0}) Refusal) → a ≡ asked_of (position_questions first second n) →
        after_asked a Refused (pair_answer_of (tag_part (tag_file f n) first) (tag_part (tag_file f n) second))
        ≡ after_asked a Refused (pair_answer_of (lookup_part (tag_file f n) first) (lookup_part (tag_file f n) second))
    passed-parts (Ok tt) e =
        let within = passed_within first second n e in
        rw (lookup_position (tag_file f n) n first (length-tag_file f n) within.0, lookup_position (tag_file f n) n second (length-tag_file f n) within.1)
    passed-parts (Err r) e = refl
