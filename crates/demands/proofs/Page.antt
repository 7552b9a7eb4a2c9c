-- Q-4: a page over build's tag file says of each record what demand 3 says of its windows; and of every tag file, that each record is
-- filled by itself.
-- Assumes nothing.
use Rattle.std.specs.Prelude.{Ok, Err, Result}
use Prim.Native.Nat.{ℕ, zero, suc, ◌%◌, ◌<◌}
use mathlib.Core.{Path.◌≡◌, Path.refl, Path.sym, Path.ap, Path.◌∙◌, List.List, List.[], List.◌∷◌, List.map}
use native.Mathlib.Omega.{arith}
use lib.ListN.{length, get_or, length-map}
use borrow.Author.Tests.{lt-ltb}
use Rattle.refusals.specs.declared.refusal.Refusal.{Refusal}
use Rattle.plan.specs.File.{window_count}
use Rattle.plan.specs.Validation.{AcceptedPlan}
use Rattle.tag_bytes.specs.Fields.{tag_length}
use Rattle.tag_bytes.specs.TagFile.{tag_file}
use Rattle.tag_bytes.proofs.TagFile.{length-tag_file}
use Rattle.tag.specs.Pairing.{pair_answer_of}
use Rattle.tag.proofs.Pairing.{pair_at_tag_file}
use Rattle.numbering.specs.Tables.{numbers_at}
use Rattle.page.specs.declared.Query.{Query}
use Rattle.page.specs.Page.{query_answer_of, with_answer, filled, page_answer_of, after_page}
use Rattle.page.specs.Passes.{as_one_pair}
use Rattle.page.proofs.Filled.{map_alike, page_whole, whole_page, pair_filled, as_filled}
use Rattle.demands.specs.EndToEnd.{tag_at}
use Rattle.demands.specs.Page.{page_over, RecordAnswered, PageAnswered, PageFilled}
use Rattle.demands.proofs.Counts.{demand_3}

get_or_map : {A : Type 0} (f : A → A) (l : List A) (i : ℕ) (d : A) → i < length l → get_or (map f l) i d ≡ f (get_or l i d)
get_or_map f [] i d less = absurd (omega (arith, less))
get_or_map f (x ∷ l) zero d less = refl
get_or_map f (x ∷ l) (suc i) d less = let inner : i < length l = omega (arith, less) in get_or_map f l i d inner

-- By the page's answer.
module _ (tags : List ℕ) (queries : List Query) where
  as_map : page_answer_of tags ≡ Ok tt → page_over tags queries ≡ map (filled tags) queries
  unfolding after_page
  as_map e = rw e

  as_before : (r : Refusal) → page_answer_of tags ≡ Err r → page_over tags queries ≡ queries
  unfolding after_page
  as_before r e = rw e

after_long : (answer : Result (Unit {0}) Refusal) (tags : List ℕ) (queries : List Query) → length (after_page answer tags queries) ≡ length queries
unfolding after_page
after_long (Ok tt) tags queries = length-map queries (filled tags)
after_long (Err r) tags queries = refl

-- A filled record is filled already.
map_twice : (tags : List ℕ) (queries : List Query) → map (filled tags) (map (filled tags) queries) ≡ map (filled tags) queries
unfolding filled with_answer
map_twice tags [] = refl
map_twice tags (query ∷ queries) = ap (λ (later : List Query). filled tags query ∷ later) (map_twice tags queries)

after_twice : (answer : Result (Unit {0}) Refusal) (tags : List ℕ) (queries : List Query) →
    after_page answer tags (after_page answer tags queries) ≡ after_page answer tags queries
unfolding after_page
after_twice (Ok tt) tags queries = map_twice tags queries
after_twice (Err r) tags queries = refl

pub page_filled : PageFilled
unfolding as_one_pair filled with_answer
page_filled =
    record {
      one_by_one = λ tags queries e. as_map tags queries e
          ∙ map_alike (filled tags) (as_one_pair tags) queries (λ query. sym (as_filled tags (whole_page tags e) query));
      by_itself = λ tags queries i none e less. ap (λ (l : List Query). get_or l i none) (as_map tags queries e)
          ∙ get_or_map (filled tags) queries i none less;
      old_unread = λ tags one other e f. rw (e, f);
      as_many = λ tags queries. after_long (page_answer_of tags) tags queries;
      refused_whole = λ tags queries r e. as_before tags queries r e;
      twice_once = λ tags queries. after_twice (page_answer_of tags) tags queries;
    }

module _ (file : List ℕ) (ok : AcceptedPlan file) where
  tags : List ℕ
  tags = tag_file (numbers_at file) (window_count file)

  whole : length tags % tag_length ≡ 0
  unfolding tags
  whole = let long = length-tag_file (numbers_at file) (window_count file) in omega arith

  -- The answer of a record is that of the two windows' tags.
  of_tags : (u v : ℕ) → u < window_count file → v < window_count file → query_answer_of tags u v ≡ pair_answer_of (tag_at file u) (tag_at file v)
  unfolding tags tag_at
  of_tags u v hu hv =
      sym (pair_filled tags whole u v) ∙ (pair_at_tag_file (numbers_at file) (window_count file) u v
      ∙ rw (lt-ltb u (window_count file) hu, lt-ltb v (window_count file) hv))

  -- So a record that names the windows u and v holds their answer.
  record_answered : (query : Query) → query.first < window_count file → query.second < window_count file →
      RecordAnswered file query.first query.second (filled tags query)
  unfolding filled with_answer
  record_answered query hu hv =
      let same = of_tags query.first query.second hu hv in
      let said = demand_3 file ok query.first query.second hu hv [] in
      record {
        first_stays = refl;
        second_stays = refl;
        counted = λ k. (λ e. (said.counted k).0 (sym same ∙ e), λ least. same ∙ (said.counted k).1 least);
        count_given = λ j. let found = said.count_given j in (found.0, same ∙ found.1);
        tags_apart = (λ e. said.tags_apart.0 (sym same ∙ e), λ none. same ∙ said.tags_apart.1 none);
        not_refused = λ r e. said.not_refused r (sym same ∙ e);
      }

pub page_answered : PageAnswered
unfolding tags
page_answered file ok queries i none less hu hv =
    rw (page_filled.by_itself (tags file ok) queries i none (sym (page_whole (tags file ok) (whole file ok))) less)
    (record_answered file ok (get_or queries i none) hu hv)
