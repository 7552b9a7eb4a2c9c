-- A loop that replaces the records of a lent slice one by one, each by what a callee makes of it, said once for any type of record:
--     for record in records { *record = record.answered(tags); }
-- Before each turn the first i records are replaced and the others as they were (`up_to`). All that is known of the callees is what they give
-- back: `walk` takes a turn, and `meets` says what the loop leaves behind.
-- Where a part of the records is lent to the loop, those that are to be filled, `in_part` says what the whole then is.
-- Vocabulary: walk, meets, filled_whole, filled_again, in_part.
-- Assumes nothing.
use Prim.Native.Nat.{ℕ, ◌+◌, ◌%◌, ◌<◌, ◌≤◌}
use mathlib.Core.{Path.◌≡◌, Path.refl, Path.subst, Path.◌∙◌, List.List, List.map, Logic.⊎_elim}
use native.Mathlib.Numerals.{add-one}
use native.Mathlib.Omega.{arith}
use lib.ListN.{length, get_or, set, take, drop}
use lib.Seq.{drop-length}
use mathlib.Core.List.{append-nil}
use Rattle.std.specs.Prelude.{Result, Ok, Err, ◌++◌}
use Rattle.std.proofs.Math.Seq.{take-length}
use Rattle.sequences.proofs.Tests.{equal_or_not}
use Rattle.refusals.specs.declared.refusal.Refusal.{Refusal}
use Rattle.tag_bytes.specs.Fields.{tag_length}
use Rattle.page.specs.Page.{page_answer_of, if_filled, to_fill}
use Rattle.page.proofs.Filled.{up_to, up_to_more, page_9, page_filled}

module _ {A : Type 0} (f : A → A) (before now : List A) (i : ℕ) (so_far : now ≡ up_to f i before) where
  -- The record at i is replaced by what is made of the one that stands there.
  pub walk : (d made : A) → made ≡ f (get_or now i d) → i < length before → set now i made ≡ up_to f (i + 1) before
  walk d made e less = rw (add-one, e, so_far) (up_to_more f i before d less)

  -- When none is left, the page is as it is to be: each record as g makes it where the page is filled, and else all as they were.
  pub meets : (tags : List ℕ) (g : A → A) → (length tags % tag_length ≡ 0 → (x : A) → f x ≡ g x) → (count : ℕ) →
      count ≡ to_fill (page_answer_of tags) (length before) → i ≤ count → count ≤ i → now ≡ if_filled (page_answer_of tags) (map g before) before
  meets tags g alike count counted within done =
      let all : i ≡ to_fill (page_answer_of tags) (length before) = omega (arith, counted) in
      so_far ∙ rw all (page_filled tags f g alike before)

-- Only where the file passes 9 is there a record to fill.
pub filled_whole : (tags : List ℕ) (i records : ℕ) → i < to_fill (page_answer_of tags) records → length tags % tag_length ≡ 0
filled_whole tags i records = ⊎_elim
    (λ whole less. whole)
    (λ other. subst (λ (a : Result (Unit {0}) Refusal). i < to_fill a records → length tags % tag_length ≡ 0) (page_9 tags other)
    (λ less. absurd (omega (arith, less))))
    (equal_or_not (length tags % tag_length) 0)

-- Of those that are to be filled all are.
pub filled_again : (answer : Result (Unit {0}) Refusal) (records count : ℕ) → count ≡ to_fill answer records → count ≡ to_fill answer count
filled_again (Ok tt) records count e = refl
filled_again (Err r) records count e = e

-- The part that is to be filled as it is to be, and behind it the records that are not: the page afterwards.
pub in_part : {A : Type 0} (f : A → A) (l part : List A) (answer : Result (Unit {0}) Refusal) (count : ℕ) → count ≡ to_fill answer (length l) →
    part ≡ if_filled answer (map f (take count l)) (take count l) → part ++ drop count l ≡ if_filled answer (map f l) l
in_part f l part (Ok tt) count e filled = rw (filled, e, take-length l, drop-length l) (append-nil (map f l))
in_part f l part (Err r) count e filled = rw (filled, e) refl
