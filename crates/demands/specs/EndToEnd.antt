-- Demand 3: for every accepted plan and every two windows, in either order and also one twice, the answer from the two tags alone is
-- the least number of handovers; the chain from the plan has just that number and, at each step from the later window, the earliest
-- window that any shortest chain has there; and "no chain" is said exactly when none joins them, from tags and plan alike.
-- Vocabulary: Answered, tag_at, Demand3, pair_from_plan.
use Rattle.std.specs.Prelude.{Option, Some, None, Result, Ok, ℕ, suc, ◌<◌, max, length, take}
use mathlib.Core.{Path.◌≡◌, Logic.◌↔◌, List.List, List.◌++◌}
use Rattle.interval_graph.specs.Chain.{first_entry, handovers, Joined, LeastHandovers, EarliestShortest}
use Rattle.refusals.specs.{declared.refusal.Refusal.Refusal, Question.first_no, Question.position_questions}
use Rattle.plan.specs.{File.window_count, Validation.plan_questions, Validation.AcceptedPlan}
use Rattle.overlap.specs.Overlap.{overlaps}
use Rattle.tag_bytes.specs.TagFile.{tag_file, lookup_part}
use Rattle.tag.specs.{declared.pairs.PairAnswer.PairAnswer, Pairing.pair_answer_of}
use Rattle.numbering.specs.Tables.{numbers_at}
use Rattle.path.specs.{Chain.chain_between, Chain.chain_answer_of, Chain.after_chain}

-- What is answered of the windows u and v of a file: the answer from their tags, the answer of chain, and its table afterwards.
pub record Answered (file : List ℕ) (u v : ℕ) (pair : PairAnswer) (chain : Result (Option ℕ) Refusal) (out : List ℕ) : Type 0 where
  -- A number of handovers is answered exactly if it is the least: some chain has it, none has fewer.
  pub counted : (k : ℕ) → (pair ≡ PairAnswer.Handovers k) ↔ LeastHandovers (window_count file) (overlaps file) u v k
  -- Where a chain joins them, some number is answered.
  pub count_given : Joined (window_count file) (overlaps file) u v → (k : ℕ) × (pair ≡ PairAnswer.Handovers k)
  -- Two tags of one plan are never refused.
  pub not_refused : (r : Refusal) → pair ≡ PairAnswer.Refused r → ⊥
  -- The chain is given in every table that holds it. It has that number,
  pub chain_given : (k : ℕ) → pair ≡ PairAnswer.Handovers k → k < length out → chain ≡ Ok (Some (suc k))
  pub chain_counted :
      (entries k : ℕ) → chain ≡ Ok (Some entries) → pair ≡ PairAnswer.Handovers k → handovers (take entries out) ≡ k
  -- begins with the later window, and has at each step the earliest window that any shortest chain has there.
  pub chain_from_later : (entries : ℕ) → chain ≡ Ok (Some entries) → first_entry (take entries out) ≡ max u v
  pub chain_earliest :
      (entries : ℕ) → chain ≡ Ok (Some entries) → EarliestShortest (window_count file) (overlaps file) u v (take entries out)
  -- "No chain" exactly when none joins them.
  pub tags_apart : (pair ≡ PairAnswer.NoChain) ↔ (Joined (window_count file) (overlaps file) u v → ⊥)
  pub plan_apart : (chain ≡ Ok None) ↔ (Joined (window_count file) (overlaps file) u v → ⊥)

-- "In demand 3 the tag of a window is the five numbers that build's tag file holds for its position, written as ten bytes":
-- the part of build's tag file that a lookup of the position hands back.
unfoldable pub tag_at : List ℕ → ℕ → List ℕ
tag_at file v = lookup_part (tag_file (numbers_at file) (window_count file)) v

-- Of what the calls answer: the pair call on the two tags, and chain with any table.
abbrev pub Demand3 : Type 0
Demand3 =
    (file : List ℕ) → AcceptedPlan file → (u v : ℕ) → u < window_count file → v < window_count file → (before : List ℕ) →
    Answered file u v (pair_answer_of (tag_at file u) (tag_at file v)) (chain_answer_of file u v (length before))
    (after_chain (chain_answer_of file u v (length before)) (chain_between file u v) before)

-- And of one call that is handed a file, two positions and a table: the answer from the tags of the windows there, after questions 1
-- to 6 and 7. (`demands::answer_all` has `Answered` in its contract.)
unfoldable pub pair_from_plan : List ℕ → (first second : ℕ) → PairAnswer
pair_from_plan file first second =
    first_no (plan_questions file ++ position_questions first second (window_count file)) PairAnswer.Refused
    (pair_answer_of (tag_at file first) (tag_at file second))
