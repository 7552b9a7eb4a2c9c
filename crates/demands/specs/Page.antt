-- Paper 02, Q-4: a page of pairs.
-- Vocabulary: page_over, RecordAnswered, PageAnswered, PageFilled.
use Rattle.std.specs.Prelude.{Ok, Err}
use Rattle.std.specs.Prelude.{ℕ, ◌<◌, length, get_or}
use mathlib.Core.{Path.◌≡◌, Logic.◌↔◌, List.List, List.map}
use Rattle.interval_graph.specs.Chain.{Joined, LeastHandovers}
use Rattle.refusals.specs.declared.refusal.Refusal.{Refusal}
use Rattle.plan.specs.{File.window_count, Validation.AcceptedPlan}
use Rattle.overlap.specs.Overlap.{overlaps}
use Rattle.tag_bytes.specs.TagFile.{tag_file}
use Rattle.tag.specs.Pairing.{pair_at_answer_of}
use Rattle.tag.specs.declared.pairs.PairAnswer.TheVariants as PairAnswer
use Rattle.numbering.specs.Tables.{numbers_at}
use Rattle.page.specs.{declared.Query.Query, Page.with_answer, Page.filled, Page.page_answer_of, Page.after_page}

-- The records after a page over a tag file.
abbrev pub page_over : List ℕ → List Query → List Query
page_over tags queries = after_page (page_answer_of tags) tags queries

-- A record after the page over build's tag file of a plan, whose positions are those of windows u and v: what demand 3 says of them.
pub record RecordAnswered (file : List ℕ) (u v : ℕ) (after : Query) : Type 0 where
  -- "Its positions stay."
  pub first_stays : after.first ≡ u
  pub second_stays : after.second ≡ v
  -- A number of handovers exactly if it is the least, and some number where a chain joins them,
  pub counted : (k : ℕ) → (after.answer ≡ PairAnswer.Handovers k) ↔ LeastHandovers (window_count file) (overlaps file) u v k
  pub count_given : Joined (window_count file) (overlaps file) u v → (k : ℕ) × (after.answer ≡ PairAnswer.Handovers k)
  -- "no chain" exactly when none joins them, and no refusal.
  pub tags_apart : (after.answer ≡ PairAnswer.NoChain) ↔ (Joined (window_count file) (overlaps file) u v → ⊥)
  pub not_refused : (r : Refusal) → after.answer ≡ PairAnswer.Refused r → ⊥

-- Of every accepted plan and every page, whatever the other records hold: the record at i (`none` stands for one that is not there).
abbrev pub PageAnswered : Type 0
PageAnswered =
    (file : List ℕ) → AcceptedPlan file → (queries : List Query) (i : ℕ) (none : Query) → i < length queries →
    (get_or queries i none).first < window_count file → (get_or queries i none).second < window_count file →
    RecordAnswered file (get_or queries i none).first (get_or queries i none).second
    (get_or (page_over (tag_file (numbers_at file) (window_count file)) queries) i none)

-- Of every tag file and every page:
pub record PageFilled : Type 0 where
  -- "Each record is filled": a page that is not refused is one pair call after another, with each record's own positions.
  pub one_by_one :
      (tags : List ℕ) (queries : List Query) → page_answer_of tags ≡ Ok tt →
      page_over tags queries ≡ map (λ query. with_answer query (pair_at_answer_of tags query.first query.second)) queries
  -- "A bad record … spoils no other": what a record holds afterwards goes by the record and the tag file alone,
  pub by_itself :
      (tags : List ℕ) (queries : List Query) (i : ℕ) (none : Query) → page_answer_of tags ≡ Ok tt → i < length queries →
      get_or (page_over tags queries) i none ≡ filled tags (get_or queries i none)
  -- and not by what stood in the place for its answer.
  pub old_unread :
      (tags : List ℕ) (one other : Query) → one.first ≡ other.first → one.second ≡ other.second → filled tags one ≡ filled tags other
  -- As many records as before; "a tag file of wrong length … fills nothing"; and filling twice is filling once.
  pub as_many : (tags : List ℕ) (queries : List Query) → length (page_over tags queries) ≡ length queries
  pub refused_whole :
      (tags : List ℕ) (queries : List Query) (r : Refusal) → page_answer_of tags ≡ Err r → page_over tags queries ≡ queries
  pub twice_once : (tags : List ℕ) (queries : List Query) → page_over tags (page_over tags queries) ≡ page_over tags queries
