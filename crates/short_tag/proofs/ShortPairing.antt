-- Laws of the answer from two short tags: by their readings, by the numbers of two that are read, in either order; and for two
-- positions of a file of them. They are those of `tag`, which hold of either form.
-- Vocabulary: short_*, unequal_depth, equal_fields, pair_short_bytes.
-- Assumes nothing.
use Prim.Native.Nat.{ℕ, ◌*◌, ◌/◌, ◌%◌, ◌<◌}
use mathlib.Core.{Bool.true, Bool.false, Path.◌≡◌, Path.refl, Path.sym, Logic.⊎_elim, List.List}
use lib.Dec.{eqb}
use native.Mathlib.Omega.{arith}
use lib.ListN.{length}
use borrow.Author.Tests.{eq-eqb, ne_eqb, lt-ltb}
use Rattle.std.specs.Prelude.{Ok, Err}
use Rattle.sequences.proofs.Tests.{truth}
use Rattle.interval_graph.specs.Numbers.{Numbers, equal, short, short_between}
use Rattle.interval_graph.proofs.Outcome.{short_symmetric}
use Rattle.refusals.specs.declared.Refusal.{Refusal}
use Rattle.refusals.specs.Question.{refusal_from, asked_of}
use Rattle.tag_bytes.specs.declared.ShortTag.{ShortTag}
use Rattle.tag_bytes.specs.Fields.{within_limit, short_length, short_tag_of, short_tag_with, short_numbers, short_bytes}
use Rattle.tag_bytes.specs.Reading.{short_read_answer_of}
use Rattle.tag_bytes.specs.TagFile.{part_of}
use Rattle.tag_bytes.proofs.Writing.{short_bytes_read, within_short}
use Rattle.tag.specs.declared.pairs.PairAnswer.TheVariants.{Refused}
use Rattle.tag.specs.Pairing.{compared_by}
use Rattle.tag.proofs.Pairing.{first_refused, second_refused, both_valid, turned_round, at_parts}
use Rattle.short_tag.specs.ShortPairing.{short_pair_answer_of, short_place_questions, short_pair_at_answer_of}

-- The answer from two byte strings, by their readings.
module _ (first second : List ℕ) where
  pub short_first_refused : (r : Refusal) → short_read_answer_of first ≡ Err r → short_pair_answer_of first second ≡ Refused (refusal_from 0 r)
  short_first_refused = first_refused short_length short_tag_of short_numbers short_between first second

  pub short_second_refused : (a : ShortTag) (r : Refusal) → short_read_answer_of first ≡ Ok a → short_read_answer_of second ≡ Err r →
      short_pair_answer_of first second ≡ Refused (refusal_from 1 r)
  short_second_refused = second_refused short_length short_tag_of short_numbers short_between first second

  pub short_valid : (a b : ShortTag) → short_read_answer_of first ≡ Ok a → short_read_answer_of second ≡ Ok b →
      short_pair_answer_of first second ≡ compared_by short_between (short_numbers a) (short_numbers b)
  short_valid = both_valid short_length short_tag_of short_numbers short_between first second

-- What question 12 asks of short tags.
module _ (u v : Numbers) where
  -- Equal tags have one depth, and tags that agree in every field are equal.
  pub unequal_depth : (u.depth ≡ v.depth → ⊥) → equal u v ≡ false
  unfolding equal
  unequal_depth other =
      rw (ne_eqb _ _ other) (⊎_elim (λ t. rw t (⊎_elim (λ s. rw s) (λ s. rw s) (truth (eqb u.component v.component)))) (λ t. rw t)
      (truth (eqb u.plan v.plan)))

  pub equal_fields : u.plan ≡ v.plan → u.component ≡ v.component → u.depth ≡ v.depth → u.rank ≡ v.rank → u.last ≡ v.last →
      equal u v ≡ true
  unfolding equal
  equal_fields p c d r l = rw (eq-eqb _ _ p, eq-eqb _ _ c, eq-eqb _ _ d, eq-eqb _ _ r, eq-eqb _ _ l)

-- Two byte strings that both read answer the same in either order, a refusal by 11 or 12 included.
pub short_pair_symmetric : (first second : List ℕ) (a b : ShortTag) → short_read_answer_of first ≡ Ok a →
    short_read_answer_of second ≡ Ok b → short_pair_answer_of first second ≡ short_pair_answer_of second first
short_pair_symmetric = turned_round short_length short_tag_of short_numbers short_between short_symmetric

-- The answer from the bytes of two short tags within the limit is that from their numbers.
pub pair_short_bytes : (u v : Numbers) → within_limit u ≡ true → within_limit v ≡ true →
    short_pair_answer_of (short_bytes u) (short_bytes v) ≡ compared_by short_between (short u) (short v)
unfolding short
pair_short_bytes u v hu hv =
    short_valid (short_bytes u) (short_bytes v) (short_tag_with u) (short_tag_with v) (short_bytes_read u (within_short u hu))
    (short_bytes_read v (within_short v hv))

-- The answer for two positions of a file of n short tags is the pair call on the parts at those below n.
pub short_at_found : (tags : List ℕ) (first second n : ℕ) → length tags ≡ short_length * n → first < n → second < n →
    short_pair_at_answer_of tags first second ≡ short_pair_answer_of (part_of short_length tags first) (part_of short_length tags second)
short_at_found tags first second n long hu hv =
    let passed : Ok tt ≡ asked_of (short_place_questions tags first second) =
    rw (
      eq-eqb (length tags % short_length) 0 (omega arith),
      lt-ltb first (length tags / short_length) (omega arith),
      lt-ltb second (length tags / short_length) (omega arith),
    ) in
    sym (at_parts short_length tags first second short_between _ _ (Ok tt) passed refl)
