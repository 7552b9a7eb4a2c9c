-- Laws of a page: its answer, a list of which the first elements are replaced, and that replacing each by the answer of a single pair
-- fills the page.
-- Vocabulary: up_to, up_to_*, map_alike, to_fill_few, query_asked, page_9, page_whole, whole_page, pair_filled, as_filled, page_filled.
-- Assumes nothing.
use Prim.Native.Nat.{ℕ, zero, suc, ◌%◌, ◌<◌, ◌≤◌}
use mathlib.Core.{Path.◌≡◌, Path.refl, Path.sym, Path.ap, Path.◌∙◌, Path.subst, Logic.⊎_elim}
use mathlib.Core.List.Memᴰ
use mathlib.Core.{List.List, List.[], List.◌∷◌, List.map}
use native.Mathlib.Omega.{arith}
use lib.ListN.{length, get_or, set}
use borrow.Author.Tests.{eq-eqb, ne_eqb, eqb-true}
use Rattle.sequences.proofs.Tests.{equal_or_not}
use Rattle.refusals.specs.declared.Refusal.{Refusal}
use Rattle.std.specs.Prelude.{Result, Ok, Err}
use Rattle.refusals.specs.Question.{refusal_by, first_no, position_questions}
use Rattle.refusals.proofs.Questions.{first_append, asked_first, passed_all, all_member}
use Rattle.interval_graph.specs.Numbers.{outcome}
use Rattle.tag_bytes.specs.Fields.{tag_length, tag_of, numbers}
use Rattle.tag_bytes.specs.TagFile.{tag_count, tag_part, tag_file_question}
use Rattle.tag.specs.declared.pairs.PairAnswer.TheVariants as pair
use Rattle.tag.specs.Pairing.{pair_questions, answer_of, pair_answer_by, pair_at_answer_of}
use Rattle.tag.proofs.Pairing.{pair_at_asked}
use Rattle.page.specs.declared.query.Query.{Query}
use Rattle.page.specs.Page.{query_answer_of, query_questions, with_answer, filled, page_answer_of, if_filled, to_fill}
use Rattle.page.specs.Passes.{as_one_pair}

-- The list with its first elements replaced, each by f of itself.
unfoldable pub up_to : {A : Type 0} → (A → A) → ℕ → List A → List A
up_to f zero l = l
up_to f (suc i) [] = []
up_to f (suc i) (x ∷ l) = f x ∷ up_to f i l

module _ {A : Type 0} (f : A → A) where
  pub up_to_length : (i : ℕ) (l : List A) → length (up_to f i l) ≡ length l
  unfolding up_to
  up_to_length zero l = refl
  up_to_length (suc i) [] = refl
  up_to_length (suc i) (x ∷ l) = ap suc (up_to_length i l)

  -- One more is replaced by what f makes of the element that stands there.
  pub up_to_more : (i : ℕ) (l : List A) (d : A) → i < length l → set (up_to f i l) i (f (get_or (up_to f i l) i d)) ≡ up_to f (suc i) l
  unfolding up_to
  up_to_more i [] d less = absurd (omega (arith, less))
  up_to_more zero (x ∷ l) d less = refl
  up_to_more (suc i) (x ∷ l) d less = let inner : i < length l = omega (arith, less) in
      ap (λ (rest : List A). f x ∷ rest) (up_to_more i l d inner)

  pub up_to_all : (l : List A) → up_to f (length l) l ≡ map f l
  unfolding up_to
  up_to_all [] = refl
  up_to_all (x ∷ l) = ap (λ (rest : List A). f x ∷ rest) (up_to_all l)

pub map_alike : {A : Type 0} (f g : A → A) (l : List A) → ((x : A) → f x ≡ g x) → map f l ≡ map g l
map_alike f g [] alike = refl
map_alike f g (x ∷ l) alike = rw (alike x, map_alike f g l alike)

-- No more records are filled than there are.
pub to_fill_few : (answer : Result (Unit {0}) Refusal) (records : ℕ) → to_fill answer records ≤ records
to_fill_few (Ok tt) records = omega arith
to_fill_few (Err r) records = omega arith

-- A record's answer is the first "no" of what is asked of it, or what the rule says.
pub query_asked : (tags : List ℕ) (first second : ℕ) → query_answer_of tags first second
    ≡ first_no (query_questions tags first second) pair.Refused
    (answer_of (outcome (numbers (tag_of (tag_part tags first))) (numbers (tag_of (tag_part tags second)))))
unfolding query_answer_of pair_answer_by
query_asked tags first second = sym (first_append (position_questions first second (tag_count tags))
    (pair_questions (tag_part tags first) (tag_part tags second)) pair.Refused _)

module _ (tags : List ℕ) where
  pub page_9 : (length tags % tag_length ≡ 0 → ⊥) → Err (refusal_by 9) ≡ page_answer_of tags
  page_9 other = rw (ne_eqb (length tags % tag_length) 0 other)

  pub page_whole : length tags % tag_length ≡ 0 → Ok tt ≡ page_answer_of tags
  page_whole whole = rw (eq-eqb (length tags % tag_length) 0 whole)

  -- A page is filled only where the file passes 9.
  pub whole_page : page_answer_of tags ≡ Ok tt → length tags % tag_length ≡ 0
  whole_page e = eqb-true _ _ (all_member (tag_file_question tags ∷ []) (passed_all (tag_file_question tags ∷ []) (sym e)) _ (Memᴰ.head refl))

  -- Where the file passes 9, the answer of a single pair is a record's.
  pub pair_filled : length tags % tag_length ≡ 0 → (first second : ℕ) → pair_at_answer_of tags first second ≡ query_answer_of tags first second
  unfolding query_answer_of
  pair_filled whole first second =
      pair_at_asked tags first second whole ∙ sym (asked_first (position_questions first second (tag_count tags)) pair.Refused _)

  pub as_filled : length tags % tag_length ≡ 0 → (query : Query) → as_one_pair tags query ≡ filled tags query
  unfolding as_one_pair filled
  as_filled whole query = ap (with_answer query) (pair_filled whole query.first query.second)

  -- As many records replaced as are to be filled: the page afterwards.
  module _ {A : Type 0} (f g : A → A) (alike : length tags % tag_length ≡ 0 → (x : A) → f x ≡ g x) (l : List A) where
    FilledSo : Result (Unit {0}) Refusal → Type 0
    FilledSo answer = up_to f (to_fill answer (length l)) l ≡ if_filled answer (map g l) l

    all_filled : length tags % tag_length ≡ 0 → FilledSo (Ok tt)
    unfolding FilledSo
    all_filled whole = up_to_all f l ∙ map_alike f g l (alike whole)

    none_filled : (r : Refusal) → FilledSo (Err r)
    unfolding FilledSo up_to
    none_filled r = refl

    pub page_filled : up_to f (to_fill (page_answer_of tags) (length l)) l ≡ if_filled (page_answer_of tags) (map g l) l
    unfolding FilledSo
    page_filled = ⊎_elim
        (λ whole. subst FilledSo (page_whole whole) (all_filled whole))
        (λ other. subst FilledSo (page_9 other) (none_filled (refusal_by 9)))
        (equal_or_not (length tags % tag_length) 0)
