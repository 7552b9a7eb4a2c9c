-- Demand 2: the tree and tags of an accepted plan are exactly paper 01's. A written tag reads back as the same five numbers, and ten
-- bytes that read as a tag are written back the same. The tree is that of `interval_graph/specs`, of the overlap of `plan/specs`.
-- Vocabulary: Leaves, Built, Demand2.
use Rattle.std.specs.Prelude.{Ok, Result, ℕ, ◌≤◌, ◌<◌, ◌*◌, length, get_or, take, drop}
use mathlib.Core.{Path.◌≡◌, List.List, List.◌++◌}
use Rattle.sequences.specs.Table.{table, overwritten}
use Rattle.interval_graph.specs.{Tree.parent, Tree.component, Tree.depth, Tree.rank, Tree.last_rank, Numbers.Numbers, Numbers.numbers_of}
use Rattle.refusals.specs.declared.refusal.Refusal.{Refusal}
use Rattle.plan.specs.{File.plan_number, File.window_count, Validation.AcceptedPlan}
use Rattle.overlap.specs.Overlap.{overlaps}
use Rattle.tag_bytes.specs.{declared.tag.Tag.Tag, Fields.tag_length, Fields.numbers, Fields.tag_with, TagFile.tag_file}
use Rattle.tag_bytes.specs.{Reading.read_answer_of, Writing.write_answer_of, Writing.after_write}
use Rattle.minutes.specs.Tables.{parent_of}
use Rattle.numbering.specs.declared.filling.Built as numbering
use Rattle.numbering.specs.Tables.{component_of, depth_of, rank_of, last_rank_of, component_count, numbers_at}
use Rattle.numbering.specs.{Numbering.after_build, Numbering.built_as}
use Rattle.tree.specs.Build.{build_answer_of, after_tags}
use Rattle.demands.specs.EndToEnd.{tag_at}

-- What build leaves in a table, whatever was in it: the first n entries are those of a function, and what lies past them stays.
abbrev pub Leaves : List ℕ → Result numbering.Built Refusal → (written expected : ℕ → ℕ) → Type 0
Leaves file answer written expected =
    (before : List ℕ) → after_build answer written before ≡ overwritten before (table expected (window_count file))

-- The answer of build, the five tables and the tag file.
pub record Built (file : List ℕ) (answer : Result numbering.Built Refusal) : Type 0 where
  pub answered : answer ≡ built_as (plan_number file) (window_count file) (component_count file)
  pub parents : Leaves file answer (parent_of file) (parent (overlaps file))
  pub components : Leaves file answer (component_of file) (component (overlaps file))
  pub depths : Leaves file answer (depth_of file) (depth (overlaps file))
  pub ranks : Leaves file answer (rank_of file) (rank (window_count file) (overlaps file))
  pub last_ranks : Leaves file answer (last_rank_of file) (last_rank (window_count file) (overlaps file))
  pub tags :
      (before : List ℕ) →
      after_tags answer (numbers_at file) before
      ≡ overwritten before (tag_file (numbers_of (window_count file) (overlaps file) (plan_number file)) (window_count file))

pub record Demand2 : Type 0 where
  -- The tree: with room in each table (p to l entries) and in the tag file (t bytes), build writes exactly the definitions' tables.
  pub tree :
      (file : List ℕ) → AcceptedPlan file → (p c d r l t : ℕ) → window_count file ≤ p → window_count file ≤ c → window_count file ≤ d →
      window_count file ≤ r → window_count file ≤ l → tag_length * window_count file ≤ t → Built file (build_answer_of file p c d r l t)
  -- The tags: the tag of the window at v reads as its five numbers.
  pub tags :
      (file : List ℕ) → AcceptedPlan file → (v : ℕ) → v < window_count file →
      read_answer_of (tag_at file v) ≡ Ok (tag_with (numbers_of (window_count file) (overlaps file) (plan_number file) v))
  -- A written tag reads back as the same five numbers,
  pub reads_back :
      (n : Numbers) (out : List ℕ) → write_answer_of n out ≡ Ok tt →
      read_answer_of (take tag_length (after_write (write_answer_of n out) n out)) ≡ Ok (tag_with n)
  -- and ten bytes that read as a tag are written back the same.
  pub writes_back :
      (bytes : List ℕ) (t : Tag) (out : List ℕ) → ((i : ℕ) → get_or bytes i 0 < 256) →
      read_answer_of bytes ≡ Ok t → tag_length ≤ length out →
      after_write (write_answer_of (numbers t) out) (numbers t) out ≡ bytes ++ drop tag_length out
