-- Laws of writing one tag: what each answer shows, that a written tag reads back as the same numbers, and that bytes that read
-- as a tag are written back the same.
-- Vocabulary: put_*, written_*, write_*, short_*, short-*, label_reads_back, tag_bytes_read, read_*, short_bytes_read.
-- Assumes nothing.
use Prim.Native.Nat.{ℕ, ◌≤◌, ◌<◌}
use mathlib.Core.{Bool.true, Bool.false, Path.◌≡◌, Path.refl, Path.sym, Path.◌∙◌, List.List, List.◌++◌}
use mathlib.Core.List.Memᴰ
use native.Mathlib.Omega.{arith}
use lib.ListN.{length, get_or, take, drop}
use borrow.Author.Tests.{leb-true, le-leb, lt-leb}
use Rattle.std.specs.Prelude.{Result, Ok, Err}
use Rattle.sequences.specs.Table.{overwritten}
use Rattle.sequences.proofs.Table.{take_overwritten}
use Rattle.interval_graph.specs.Numbers.{Numbers, short}
use Rattle.refusals.specs.declared.Refusal.{Refusal}
use Rattle.refusals.specs.Question.{refusal_by, asked_of}
use Rattle.refusals.proofs.Questions.{passed_all, all_member}
use Rattle.tag_bytes.specs.declared.tag.Tag.{Tag}
use Rattle.tag_bytes.specs.declared.short_tag.ShortTag.{ShortTag}
use Rattle.tag_bytes.specs.Fields.{tag_length, tag_of, numbers, tag_with, tag_bytes, within_limit, short_length, short_tag_of, short_tag_with, short_numbers, short_bytes}
use Rattle.tag_bytes.specs.Reading.{read_answer_of, short_read_answer_of}
use Rattle.tag_bytes.specs.Writing.{put_questions, after_put, write_answer_of, after_write, short_write_answer_of, after_short_write}
use Rattle.tag_bytes.proofs.Fields.{within_limit_lem, limit_within, length-tag_bytes, tag_of-tag_bytes, tag_bytes-tag_of}
use Rattle.tag_bytes.proofs.Fields.{length-short_bytes, short_tag_of-short_bytes, short_bytes-short_tag_of}
use Rattle.tag_bytes.proofs.Reading.{reading, reads_valid, valid_reads, short_valid_reads}

-- The answer to numbers that are to be written as so many bytes.
module _ (wide : ℕ) (n : Numbers) (out : List ℕ) where
  -- A table without room is refused by 8.
  pub put_8 : length out < wide → Err (refusal_by 8) ≡ asked_of (put_questions wide n out)
  put_8 short = rw (lt-leb wide (length out) short)

  -- A field past the limit is refused by 10.
  pub put_10 : wide ≤ length out → within_limit n ≡ false → Err (refusal_by 10) ≡ asked_of (put_questions wide n out)
  put_10 room over = rw (le-leb wide (length out) room, over)

  -- Else the tag is written.
  pub put_written : wide ≤ length out → within_limit n ≡ true → Ok tt ≡ asked_of (put_questions wide n out)
  put_written room within = rw (le-leb wide (length out) room, within)

  -- A tag that is written shows that there is room, and that the fields are within their limit.
  pub written_fits : asked_of (put_questions wide n out) ≡ Ok tt → (wide ≤ length out) × (within_limit n ≡ true)
  written_fits e =
      let asked = all_member (put_questions wide n out) (passed_all (put_questions wide n out) (sym e)) in
      (leb-true _ _ (asked _ (Memᴰ.head refl)), asked _ (Memᴰ.tail (Memᴰ.head refl)))

  -- What fits is written.
  pub put_puts : (bytes part : List ℕ) (answer : Result (Unit {0}) Refusal) → wide ≤ length out → within_limit n ≡ true →
      answer ≡ asked_of (put_questions wide n out) → part ≡ after_put answer bytes out → part ≡ overwritten out bytes
  put_puts bytes part answer room within answered stored = stored ∙ rw (answered ∙ sym (put_written room within))

-- The answers of both writes.
module _ (n : Numbers) (out : List ℕ) where
  pub write_8 : length out < tag_length → Err (refusal_by 8) ≡ write_answer_of n out
  write_8 = put_8 tag_length n out

  pub write_10 : tag_length ≤ length out → within_limit n ≡ false → Err (refusal_by 10) ≡ write_answer_of n out
  write_10 = put_10 tag_length n out

  pub write_written : tag_length ≤ length out → within_limit n ≡ true → Ok tt ≡ write_answer_of n out
  write_written = put_written tag_length n out

module _ (t : ShortTag) (out : List ℕ) where
  pub short_write_8 : length out < short_length → Err (refusal_by 8) ≡ short_write_answer_of t out
  short_write_8 = put_8 short_length (short_numbers t) out

  pub short_write_10 : short_length ≤ length out → within_limit (short_numbers t) ≡ false → Err (refusal_by 10) ≡ short_write_answer_of t out
  short_write_10 = put_10 short_length (short_numbers t) out

  pub short_write_written : short_length ≤ length out → within_limit (short_numbers t) ≡ true → Ok tt ≡ short_write_answer_of t out
  short_write_written = put_written short_length (short_numbers t) out

-- A label of a form whose bytes hold it: they read as that label, and what was written reads back.
module _ {T : Type 0} (wide : ℕ) (label_of : List ℕ → T) (numbers_in : T → Numbers) (bytes_of : Numbers → List ℕ) (long : (n : Numbers) → length (bytes_of n) ≡ wide)
    (held : (t : T) → label_of (bytes_of (numbers_in t)) ≡ t) (t : T) where
  pub label_read : within_limit (numbers_in t) ≡ true → reading wide label_of numbers_in (bytes_of (numbers_in t)) ≡ Ok t
  label_read within =
      reads_valid wide label_of numbers_in (bytes_of (numbers_in t)) t
      (record { long = long (numbers_in t); within = within; holds = sym (held t) })

  -- The front of a table that it was written to is the label.
  at_front : (out : List ℕ) → take wide (overwritten out (bytes_of (numbers_in t))) ≡ bytes_of (numbers_in t)
  at_front out = rw (long (numbers_in t)) at (take_overwritten out (bytes_of (numbers_in t)))

  pub label_reads_back : (out : List ℕ) → asked_of (put_questions wide (numbers_in t) out) ≡ Ok tt →
      reading wide label_of numbers_in (take wide (after_put (asked_of (put_questions wide (numbers_in t) out)) (bytes_of (numbers_in t)) out)) ≡ Ok t
  label_reads_back out e = rw (e, at_front out) (label_read (written_fits wide (numbers_in t) out e).1)

-- The bytes of a tag within the limit read as that tag.
pub tag_bytes_read : (n : Numbers) → within_limit n ≡ true → read_answer_of (tag_bytes n) ≡ Ok (tag_with n)
tag_bytes_read n within = label_read tag_length tag_of numbers tag_bytes length-tag_bytes (λ t. tag_of-tag_bytes (numbers t)) (tag_with n) within

-- A tag that is written reads back as the same five numbers.
pub written_reads_back : (n : Numbers) (out : List ℕ) → write_answer_of n out ≡ Ok tt →
    read_answer_of (take tag_length (after_write (write_answer_of n out) n out)) ≡ Ok (tag_with n)
written_reads_back n = label_reads_back tag_length tag_of numbers tag_bytes length-tag_bytes (λ t. tag_of-tag_bytes (numbers t)) (tag_with n)

-- Bytes that read as a tag are those of its numbers.
pub read_tag_bytes : (bytes : List ℕ) (t : Tag) → ((i : ℕ) → get_or bytes i 0 < 256) → read_answer_of bytes ≡ Ok t → tag_bytes (numbers t) ≡ bytes
read_tag_bytes bytes t small e =
    let r = valid_reads bytes t e in
    rw r.holds (tag_bytes-tag_of bytes small r.long)

-- The numbers of a tag that was read are written wherever there is room.
pub read_accepted : (bytes : List ℕ) (t : Tag) (out : List ℕ) → read_answer_of bytes ≡ Ok t → tag_length ≤ length out → write_answer_of (numbers t) out ≡ Ok tt
read_accepted bytes t out e room = sym (write_written (numbers t) out room (valid_reads bytes t e).within)

-- Bytes that read as a tag are written back the same.
pub read_writes_back : (bytes : List ℕ) (t : Tag) (out : List ℕ) → ((i : ℕ) → get_or bytes i 0 < 256) → read_answer_of bytes ≡ Ok t →
    tag_length ≤ length out → take tag_length (after_write (write_answer_of (numbers t) out) (numbers t) out) ≡ bytes
read_writes_back bytes t out small e room =
    rw (read_accepted bytes t out e room)
    (at_front tag_length tag_of numbers tag_bytes length-tag_bytes (λ t. tag_of-tag_bytes (numbers t)) t out ∙ read_tag_bytes bytes t small e)

-- The same of a short tag.
pub short_bytes_read : (n : Numbers) → within_limit (short n) ≡ true → short_read_answer_of (short_bytes n) ≡ Ok (short_tag_with n)
unfolding short short_bytes
short_bytes_read n within =
    label_read short_length short_tag_of short_numbers short_bytes length-short_bytes (λ t. short_tag_of-short_bytes (short_numbers t)) (short_tag_with n) within

-- A field that a short tag does not have is past no limit.
pub within_short : (n : Numbers) → within_limit n ≡ true → within_limit (short n) ≡ true
unfolding short
within_short n within =
    let w = within_limit_lem n within in
    limit_within (short n) (record { component = w.component; depth = w.depth; rank = w.rank; last = omega arith })

pub short_reads_back : (t : ShortTag) (out : List ℕ) → short_write_answer_of t out ≡ Ok tt →
    short_read_answer_of (take short_length (after_short_write (short_write_answer_of t out) t out)) ≡ Ok t
short_reads_back = label_reads_back short_length short_tag_of short_numbers short_bytes length-short_bytes (λ t. short_tag_of-short_bytes (short_numbers t))

pub short_writes_back : (bytes : List ℕ) (t : ShortTag) (out : List ℕ) → ((i : ℕ) → get_or bytes i 0 < 256) → short_read_answer_of bytes ≡ Ok t →
    short_length ≤ length out → after_short_write (short_write_answer_of t out) t out ≡ bytes ++ drop short_length out
unfolding overwritten
short_writes_back bytes t out small e room =
    let r = short_valid_reads bytes t e in
    let same : short_bytes (short_numbers t) ≡ bytes = rw r.holds (short_bytes-short_tag_of bytes small r.long) in
    rw (sym (short_write_written t out room r.within), length-short_bytes (short_numbers t), same)
