-- Demand 1: a plan file, position, table or tag that breaks a rule of paper 01 or of a request in force is refused with the number,
-- input and position given there, and everything lent stays untouched; nothing else is refused; every public call takes every input
-- and returns. (That it does is what its proof says: no public call has a `requires`, and a proved function ends.)
-- Vocabulary: FirstNo, Refuses, Demand1.
use Rattle.std.specs.Prelude.{Err}
use Rattle.std.specs.Prelude.{ℕ}
use mathlib.Core.{Bool.true, Bool.false, Path.◌≡◌, Logic.◌↔◌, List.List, List.[], List.◌∷◌}
use Rattle.interval_graph.specs.Numbers.{Numbers}
use Rattle.refusals.specs.{declared.refusal.Refusal.Refusal, Question.Question, Question.asked_of}
use Rattle.plan.specs.Validation.{plan_questions, validate_answer_of}
use Rattle.tag_bytes.specs.{Reading.read_questions, Reading.read_answer_of, Writing.write_questions, Writing.write_answer_of, Writing.after_write}
use Rattle.tag_bytes.specs.TagFile.{tag_file_question, lookup_questions, lookup_answer_of, lookup_part}
use Rattle.tag_bytes.specs.{declared.short_tag.ShortTag.ShortTag, Reading.short_read_questions, Reading.short_read_answer_of}
use Rattle.tag_bytes.specs.{Writing.short_write_questions, Writing.short_write_answer_of, Writing.after_short_write}
use Rattle.tag.specs.Pairing.{pair_questions, pair_answer_of, pair_at_questions, pair_at_answer_of}
use Rattle.short_tag.specs.ShortPairing.{short_pair_questions, short_pair_answer_of, short_pair_at_questions, short_pair_at_answer_of}
use Rattle.tag.specs.declared.pairs.PairAnswer.TheVariants as PairAnswer
use Rattle.page.specs.{declared.Query.Query, Page.query_questions, Page.query_answer_of, Page.page_answer_of, Page.after_page}
use Rattle.minutes.specs.SingleTable.{table_questions, table_answer_of, after_table}
use Rattle.minutes.specs.EvenTable.{even_table_questions, even_table_answer_of}
use Rattle.numbering.specs.Numbering.{numbers_answer_of, after_build}
use Rattle.tree.specs.Build.{build_questions, build_answer_of, tags_questions, tags_answer_of, after_tags}
use Rattle.even_tags.specs.ShortTags.{short_tags_questions, short_tags_answer_of, after_short_tags}
use Rattle.changing.specs.{declared.records.Change.Change, Questions.change_questions, Questions.change_answer_of, Questions.after_change}
use Rattle.overlap.specs.Margin.{margin_questions, margin_answer_of}
use Rattle.reaching.specs.Reach.{reach_questions, reach_answer_of}
use Rattle.path.specs.Chain.{chain_questions, chain_answer_of, after_chain}
use Rattle.neighbouring.specs.Neighbours.{neighbours_questions, neighbours_answer_of, after_neighbours}
use Rattle.sameness.specs.Sameness.{same_questions, same_answer_of}

-- Of questions asked in order, the first that is answered "no" gives this refusal.
pub data FirstNo : List Question → Refusal → Type 0 where
  here : {q : Question} {later : List Question} {r : Refusal} → q.yes ≡ false → r ≡ q.refusal → FirstNo (q ∷ later) r
  there : {q : Question} {later : List Question} {r : Refusal} → q.yes ≡ true → FirstNo later r → FirstNo (q ∷ later) r

-- An answer is a refusal exactly if that is the first "no" of the call's questions.
abbrev pub Refuses : {A : Type 0} → List Question → (Refusal → A) → A → Type 0
Refuses questions refused answer = (r : Refusal) → (answer ≡ refused r) ↔ FirstNo questions r

pub record Demand1 : Type 0 where
  -- Each call refuses exactly what its questions do, with their number, input and position. On a plan (p to t: rooms of the tables):
  pub validating : (file : List ℕ) → Refuses (plan_questions file) Err (validate_answer_of file)
  pub building :
      (file : List ℕ) (p c d r l t : ℕ) → Refuses (build_questions file p c d r l t) Err (build_answer_of file p c d r l t)
  pub tagging : (file : List ℕ) (room : ℕ) → Refuses (tags_questions file room) Err (tags_answer_of file room)
  -- (the parent table, the last table or both, and then all five; `room` is the least that there is)
  pub tabling : (file : List ℕ) (room : ℕ) → Refuses (table_questions file room) Err (table_answer_of file room)
  pub numbering : (file : List ℕ) (room : ℕ) → Refuses (table_questions file room) Err (numbers_answer_of file room)
  pub reaching : (file : List ℕ) (v : ℕ) → Refuses (reach_questions file v) Err (reach_answer_of file v)
  pub chaining : (file : List ℕ) (u v room : ℕ) → Refuses (chain_questions file u v room) Err (chain_answer_of file u v room)
  pub neighbouring :
      (file : List ℕ) (v room : ℕ) → Refuses (neighbours_questions file v room) Err (neighbours_answer_of file v room)
  -- (paper 02, Q-7)
  pub margining : (file : List ℕ) (u v : ℕ) → Refuses (margin_questions file u v) Err (margin_answer_of file u v)
  -- (a change, with buffers of so many bytes; paper 02, Q-6)
  pub changing :
      (file : List ℕ) (c : Change) (changed tags : ℕ) →
      Refuses (change_questions file c changed tags) Err (change_answer_of file c changed tags)
  pub comparing : (first second : List ℕ) → Refuses (same_questions first second) Err (same_answer_of first second)
  -- On tags:
  pub reading : (bytes : List ℕ) → Refuses (read_questions bytes) Err (read_answer_of bytes)
  pub writing : (n : Numbers) (out : List ℕ) → Refuses (write_questions n out) Err (write_answer_of n out)
  pub looking_up : (tags : List ℕ) (at : ℕ) → Refuses (lookup_questions tags at) Err (lookup_answer_of tags at)
  pub pairing : (first second : List ℕ) → Refuses (pair_questions first second) PairAnswer.Refused (pair_answer_of first second)
  pub pairing_at : (tags : List ℕ) (u v : ℕ) → Refuses (pair_at_questions tags u v) PairAnswer.Refused (pair_at_answer_of tags u v)
  -- On short tags (paper 02, Q-1), and the parents of an even plan:
  pub short_tagging :
      (file : List ℕ) (room : ℕ) → Refuses (short_tags_questions file room) Err (short_tags_answer_of file room)
  pub even_tabling :
      (file : List ℕ) (room : ℕ) → Refuses (even_table_questions file room) Err (even_table_answer_of file room)
  pub short_reading : (bytes : List ℕ) → Refuses (short_read_questions bytes) Err (short_read_answer_of bytes)
  pub short_writing :
      (t : ShortTag) (out : List ℕ) → Refuses (short_write_questions t out) Err (short_write_answer_of t out)
  pub short_pairing :
      (first second : List ℕ) → Refuses (short_pair_questions first second) PairAnswer.Refused (short_pair_answer_of first second)
  pub short_pairing_at :
      (tags : List ℕ) (u v : ℕ) → Refuses (short_pair_at_questions tags u v) PairAnswer.Refused (short_pair_at_answer_of tags u v)
  -- On a page (paper 02, Q-4): the whole of it, and each record by itself.
  pub paging : (tags : List ℕ) → Refuses (tag_file_question tags ∷ []) Err (page_answer_of tags)
  pub querying : (tags : List ℕ) (u v : ℕ) → Refuses (query_questions tags u v) PairAnswer.Refused (query_answer_of tags u v)
  -- On what is asked by itself: 7 of two positions, also behind 9 of a tag file, and 4 and 5 of one window.
  pub asking : (questions : List Question) → Refuses questions Err (asked_of questions)
  -- A refusal leaves every lent table as it was.
  pub build_untouched : (r : Refusal) (f : ℕ → ℕ) (before : List ℕ) → after_build (Err r) f before ≡ before
  pub tags_untouched : (r : Refusal) (f : ℕ → Numbers) (before : List ℕ) → after_tags (Err r) f before ≡ before
  pub short_tags_untouched : (r : Refusal) (f : ℕ → Numbers) (before : List ℕ) → after_short_tags (Err r) f before ≡ before
  pub table_untouched : (r : Refusal) (f : ℕ → ℕ) (before : List ℕ) → after_table (Err r) f before ≡ before
  pub change_untouched : (r : Refusal) (new before : List ℕ) → after_change (Err r) new before ≡ before
  pub chain_untouched : (r : Refusal) (l before : List ℕ) → after_chain (Err r) l before ≡ before
  pub neighbours_untouched : (r : Refusal) (l before : List ℕ) → after_neighbours (Err r) l before ≡ before
  pub write_untouched : (r : Refusal) (n : Numbers) (before : List ℕ) → after_write (Err r) n before ≡ before
  pub short_write_untouched : (r : Refusal) (t : ShortTag) (before : List ℕ) → after_short_write (Err r) t before ≡ before
  pub page_untouched : (r : Refusal) (tags : List ℕ) (before : List Query) → after_page (Err r) tags before ≡ before
  -- "A refused lookup hands back an empty part".
  pub lookup_empty : (tags : List ℕ) (at : ℕ) (r : Refusal) → lookup_answer_of tags at ≡ Err r → lookup_part tags at ≡ []
