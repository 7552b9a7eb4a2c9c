-- Laws of reading one tag: its three answers, over the width; what a valid reading shows, and questions 9 and 10 by the reading, of a label of
-- either form.
-- Vocabulary: tag_*, reading, ReadsAs, reads_*, questions_*, read_9, read_10, valid_reads, short_valid_reads.
-- Assumes nothing.
use Prim.Native.Nat.{ℕ}
use mathlib.Core.{Bool.true, Bool.false, Path.◌≡◌, Path.refl, Path.sym, Path.◌∙◌, List.List}
use mathlib.Core.List.Memᴰ
use lib.ListN.{length}
use borrow.Author.Tests.{eqb-true, eq-eqb, ne_eqb}
use Rattle.std.specs.Prelude.{Result, Ok, Err}
use Rattle.interval_graph.specs.Numbers.{Numbers}
use Rattle.refusals.specs.declared.Refusal.{Refusal}
use Rattle.refusals.specs.Question.{refusal_by, first_no}
use Rattle.refusals.proofs.Questions.{first_map, first_all, answer_accepted, all_member}
use Rattle.tag_bytes.specs.declared.tag.Tag.{Tag}
use Rattle.tag_bytes.specs.declared.short_tag.ShortTag.{ShortTag}
use Rattle.tag_bytes.specs.Fields.{tag_length, tag_of, numbers, within_limit, short_length, short_tag_of, short_numbers}
use Rattle.tag_bytes.specs.Reading.{tag_questions, read_answer_of, short_read_answer_of}

-- The answer to a tag that is to have so many bytes and whose numbers are n.
module _ {A : Type 0} (wide : ℕ) (bytes : List ℕ) (n : Numbers) (refused : Refusal → A) (valid : A) where
  -- Any other number of bytes is refused by 9.
  pub tag_9 : (length bytes ≡ wide → ⊥) → refused (refusal_by 9) ≡ first_no (tag_questions wide bytes n) refused valid
  tag_9 other = rw (ne_eqb (length bytes) wide other)

  module _ (long : length bytes ≡ wide) where
    -- A field past the limit is refused by 10.
    pub tag_10 : within_limit n ≡ false → refused (refusal_by 10) ≡ first_no (tag_questions wide bytes n) refused valid
    tag_10 over = rw (eq-eqb (length bytes) wide long, over)

    -- Else the tag is valid.
    pub tag_valid : within_limit n ≡ true → valid ≡ first_no (tag_questions wide bytes n) refused valid
    tag_valid within = rw (eq-eqb (length bytes) wide long, within)

  -- What is not refused shows both.
  pub tag_shown : ((r : Refusal) → refused r ≡ valid → ⊥) → first_no (tag_questions wide bytes n) refused valid ≡ valid →
      (length bytes ≡ wide) × (within_limit n ≡ true)
  tag_shown other e =
      let passed = all_member (tag_questions wide bytes n) (first_all (tag_questions wide bytes n) refused valid other e) in
      (eqb-true _ _ (passed _ (Memᴰ.head refl)), passed _ (Memᴰ.tail (Memᴰ.head refl)))

-- A label of a form: its width, the one that bytes hold, and its numbers.
module _ {T : Type 0} (wide : ℕ) (label_of : List ℕ → T) (numbers_in : T → Numbers) where
  -- The reading of a byte string.
  abbrev pub reading : List ℕ → Result T Refusal
  reading bytes = first_no (tag_questions wide bytes (numbers_in (label_of bytes))) Err (Ok (label_of bytes))

  -- What is known of bytes that read as a label.
  pub record ReadsAs (bytes : List ℕ) (t : T) : Type 0 where
    pub long : length bytes ≡ wide
    pub within : within_limit (numbers_in t) ≡ true
    pub holds : t ≡ label_of bytes

  -- A valid reading shows all of that, and what shows it is read.
  refused_not_valid : (t : T) (r : Refusal) → Err r ≡ Ok t → ⊥
  refused_not_valid t r e = cc

  pub reads_shown : (bytes : List ℕ) (t : T) → reading bytes ≡ Ok t → ReadsAs bytes t
  reads_shown bytes t e =
      let n = numbers_in (label_of bytes) in
      let same : Ok (label_of bytes) ≡ Ok t = answer_accepted (tag_questions wide bytes n) Err (Ok (label_of bytes)) (Ok t) (refused_not_valid t) e in
      let holds : t ≡ label_of bytes = cc in
      let shown = tag_shown wide bytes n Err (Ok (label_of bytes)) (refused_not_valid (label_of bytes)) (e ∙ sym same) in
      record { long = shown.0; within = rw holds shown.1; holds = holds }

  pub reads_valid : (bytes : List ℕ) (t : T) → ReadsAs bytes t → reading bytes ≡ Ok t
  reads_valid bytes t r =
      sym (tag_valid wide bytes (numbers_in (label_of bytes)) Err (Ok (label_of bytes)) r.long (rw r.holds at r.within)) ∙ rw r.holds

  -- What a call answers after a reading: its refusal, or what is asked next.
  abbrev after_reading : {A : Type 0} → Result T Refusal → (Refusal → A) → A → A
  after_reading (Ok t) refused next = next
  after_reading (Err r) refused next = refused r

  -- The questions to a label, by its reading.
  module _ {A : Type 0} (bytes : List ℕ) (refused : Refusal → A) (accepted : A) where
    by_reading : first_no (tag_questions wide bytes (numbers_in (label_of bytes))) refused accepted ≡ after_reading (reading bytes) refused accepted
    by_reading =
        sym (first_map (λ r. after_reading r refused accepted) (tag_questions wide bytes (numbers_in (label_of bytes))) Err (Ok (label_of bytes)))

    -- A valid one leaves what comes after.
    pub questions_valid : (t : T) → reading bytes ≡ Ok t →
        first_no (tag_questions wide bytes (numbers_in (label_of bytes))) refused accepted ≡ accepted
    questions_valid t e = by_reading ∙ rw e

    -- One that is refused is refused.
    pub questions_refused : (r : Refusal) → reading bytes ≡ Err r →
        first_no (tag_questions wide bytes (numbers_in (label_of bytes))) refused accepted ≡ refused r
    questions_refused r e = by_reading ∙ rw e

-- The answers of a reading of a tag, by the tag that was taken out of the bytes; and what a valid reading shows, of either form.
pub read_9 : (bytes : List ℕ) → (length bytes ≡ tag_length → ⊥) → Err (refusal_by 9) ≡ read_answer_of bytes
read_9 bytes other = tag_9 tag_length bytes (numbers (tag_of bytes)) Err _ other

pub read_10 : (bytes : List ℕ) (t : Tag) → length bytes ≡ tag_length → t ≡ tag_of bytes → within_limit (numbers t) ≡ false →
    Err (refusal_by 10) ≡ read_answer_of bytes
read_10 bytes t long holds over = tag_10 tag_length bytes (numbers (tag_of bytes)) Err _ long (rw holds at over)

pub valid_reads : (bytes : List ℕ) (t : Tag) → read_answer_of bytes ≡ Ok t → ReadsAs tag_length tag_of numbers bytes t
valid_reads = reads_shown tag_length tag_of numbers

pub short_valid_reads : (bytes : List ℕ) (t : ShortTag) → short_read_answer_of bytes ≡ Ok t → ReadsAs short_length short_tag_of short_numbers bytes t
short_valid_reads = reads_shown short_length short_tag_of short_numbers
