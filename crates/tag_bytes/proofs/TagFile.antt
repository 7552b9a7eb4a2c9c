-- Laws of a tag file: what each answer of a lookup shows, and the part at a position, of any tag file and of one that is written
-- tag after tag.
-- Vocabulary: lookup_*, found_*, part_*, length-*, tag_file_*, short_tag_file_*, short_tag_file-*.
-- Assumes nothing.
use Prim.Native.Nat.{ℕ, zero, suc, ◌+◌, ◌*◌, ◌/◌, ◌%◌, ◌≤◌, ◌<◌}
use mathlib.Core.Path.{◌≡◌, refl, sym, ap, ◌∙◌}
use mathlib.Core.List.{List, [], ◌∷◌, ◌++◌, append-nil, flat_map}
use native.Mathlib.Omega.{arith}
use lib.ListN.{length}
use mathlib.Core.List.Memᴰ
use borrow.Author.Tests.{eq-eqb, ne_eqb, lt-ltb, le-ltb, ltb-true}
use Rattle.std.specs.Prelude.{Ok, Err}
use Rattle.sequences.specs.Table.{table}
use Rattle.sequences.proofs.Table.{length_table, get_or-table, table_cong}
use Rattle.sequences.proofs.FlatMap.{flat_map-append}
use Rattle.sequences.proofs.Records.{length_records, record_part}
use Rattle.interval_graph.specs.Numbers.{Numbers, short}
use Rattle.refusals.specs.declared.Refusal.{Refusal}
use Rattle.refusals.specs.Question.{refusal_by, asked_of}
use Rattle.refusals.proofs.Questions.{all_member, asked_yes}
use Rattle.tag_bytes.specs.Fields.{tag_length, tag_bytes, short_length, short_bytes}
use Rattle.tag_bytes.specs.TagFile.{tag_file, tag_count, part_of, tag_part, lookup_in, lookup_questions, lookup_answer_of, looked_up, lookup_part, short_tag_file}
use Rattle.tag_bytes.proofs.Fields.{length-tag_bytes, length-short_bytes}

-- A file of tags that have so many bytes, and a position.
module _ (wide : ℕ) (tags : List ℕ) (at : ℕ) where
  -- A position before the last tag of a whole file is found.
  pub found_in : length tags % wide ≡ 0 → at < length tags / wide → Ok tt ≡ asked_of (lookup_in wide tags at)
  found_in whole within = rw (eq-eqb (length tags % wide) 0 whole, lt-ltb at (length tags / wide) within)

  -- The part that is handed back where the tag is found, and the empty part where the lookup is refused.
  pub looked_up_found : asked_of (lookup_in wide tags at) ≡ Ok tt → looked_up wide tags at ≡ part_of wide tags at
  unfolding looked_up
  looked_up_found e = rw e

  pub looked_up_refused : (r : Refusal) → asked_of (lookup_in wide tags at) ≡ Err r → looked_up wide tags at ≡ []
  unfolding looked_up
  looked_up_refused r e = rw e

module _ (tags : List ℕ) (at : ℕ) where
  -- A file whose length is no multiple of a tag's is refused by 9.
  pub lookup_9 : (length tags % tag_length ≡ 0 → ⊥) → Err (refusal_by 9) ≡ lookup_answer_of tags at
  lookup_9 other = rw (ne_eqb (length tags % tag_length) 0 other)

  -- A position past the last tag is refused by 7.
  pub lookup_7 : length tags % tag_length ≡ 0 → tag_count tags ≤ at → Err (refusal_by 7) ≡ lookup_answer_of tags at
  lookup_7 whole past = rw (eq-eqb (length tags % tag_length) 0 whole, le-ltb at (tag_count tags) past)

  -- Else the tag is found.
  pub lookup_found : length tags % tag_length ≡ 0 → at < tag_count tags → Ok tt ≡ lookup_answer_of tags at
  lookup_found = found_in tag_length tags at

  -- What is found lies whole within the tag file.
  pub found_within : lookup_answer_of tags at ≡ Ok tt → tag_length * at + tag_length ≤ length tags
  found_within e =
      let passed = all_member (lookup_questions tags at) (asked_yes (lookup_questions tags at) e) in
      let within : at < length tags / tag_length = ltb-true _ _ (passed _ (Memᴰ.tail (Memᴰ.head refl))) in
      omega arith

  -- The part that is handed back where the tag is found.
  pub part_found : lookup_answer_of tags at ≡ Ok tt → lookup_part tags at ≡ tag_part tags at
  part_found = looked_up_found tag_length tags at

  -- The empty part where the lookup is refused.
  pub part_refused : (r : Refusal) → lookup_answer_of tags at ≡ Err r → lookup_part tags at ≡ []
  part_refused = looked_up_refused tag_length tags at

-- In a file of n tags every position below n is found.
pub lookup_position : (tags : List ℕ) (n v : ℕ) → length tags ≡ tag_length * n → v < n → lookup_part tags v ≡ tag_part tags v
lookup_position tags n v long within = part_found tags v (sym (lookup_found tags v (omega arith) (omega arith)))

module _ (f : ℕ → Numbers) where
  -- A tag file is as long as its tags.
  pub length-tag_file : (n : ℕ) → length (tag_file f n) ≡ tag_length * n
  unfolding tag_file
  length-tag_file n = omega (arith, length_records tag_bytes tag_length length-tag_bytes (table f n), length_table f n)

  -- The part of a tag file at a position is the tag of that position, whatever stands behind the file.
  pub tag_file_part : (n v : ℕ) (rest : List ℕ) → v < n → tag_part (tag_file f n ++ rest) v ≡ tag_bytes (f v)
  unfolding tag_file
  tag_file_part n v rest h =
      record_part tag_bytes tag_length length-tag_bytes (table f n) v (f v) rest (omega (arith, length_table f n))
      ∙ ap tag_bytes (get_or-table f n v (f v) h)

  -- Looking a position up in the tag file of n windows hands back the tag of that position.
  pub tag_file_lookup : (n v : ℕ) → v < n → lookup_part (tag_file f n) v ≡ tag_bytes (f v)
  tag_file_lookup n v h = lookup_position (tag_file f n) n v (length-tag_file n) h ∙ rw append-nil at (tag_file_part n v [] h)

  -- A tag file depends on the numbers below n only.
  pub tag_file_cong : (g : ℕ → Numbers) (n : ℕ) → ((v : ℕ) → v < n → f v ≡ g v) → tag_file f n ≡ tag_file g n
  unfolding tag_file
  tag_file_cong g n e = ap (flat_map tag_bytes) (table_cong f g n e)

  -- The same of short tags.
  pub length-short_tag_file : (n : ℕ) → length (short_tag_file f n) ≡ short_length * n
  unfolding short_tag_file
  length-short_tag_file n = omega (arith, length_records short_bytes short_length length-short_bytes (table f n), length_table f n)

  pub short_tag_file_part : (n v : ℕ) → v < n → part_of short_length (short_tag_file f n) v ≡ short_bytes (f v)
  unfolding short_tag_file
  short_tag_file_part n v h =
      rw append-nil at (record_part short_bytes short_length length-short_bytes (table f n) v (f v) [] (omega (arith, length_table f n)))
      ∙ ap short_bytes (get_or-table f n v (f v) h)

  pub short_tag_file_cong : (g : ℕ → Numbers) (n : ℕ) → ((v : ℕ) → v < n → f v ≡ g v) → short_tag_file f n ≡ short_tag_file g n
  unfolding short_tag_file
  short_tag_file_cong g n e = ap (flat_map short_bytes) (table_cong f g n e)

  -- The rank of the last does not count.
  pub short_tag_file-short : (n : ℕ) → short_tag_file (λ v. short (f v)) n ≡ short_tag_file f n
  unfolding short_tag_file table short_bytes short flat_map
  short_tag_file-short zero = refl
  short_tag_file-short (suc n) =
      rw (flat_map-append short_bytes (table (λ v. short (f v)) n) (short (f n) ∷ []), flat_map-append short_bytes (table f n) (f n ∷ []), short_tag_file-short n)
