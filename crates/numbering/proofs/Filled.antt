-- The five tables: room in each, what each pass leaves in an accepted plan's tables, and the answers.
-- Vocabulary: Rooms.
-- Assumes nothing.
use Prim.Native.Nat.{ℕ, ◌≤◌, ◌<◌}
use mathlib.Core.{Path.◌≡◌, Path.refl, Path.sym, Path.ap, Path.◌∙◌, List.List}
use lib.ListN.{get_or}
use native.Mathlib.Omega.{arith}
use Rattle.sequences.specs.Search.{count}
use Rattle.sequences.specs.Table.{table, overwritten, Holds}
use Rattle.sequences.proofs.Search.{count_cong}
use Rattle.sequences.proofs.Table.{table_cong, length_table, overwritten_again}
use Rattle.interval_graph.specs.Tree.{last, parent, rank, last_rank}
use Rattle.interval_graph.specs.Forest as Forest
use Rattle.interval_graph.proofs.Parent.{tree}
use Rattle.interval_graph.proofs.Agreement.{root_test_agrees, depth_agrees, component_agrees, rank_agrees}
use Rattle.interval_graph.proofs.Last.{last_below}
use Rattle.refusals.specs.declared.refusal.Refusal.{Refusal}
use Rattle.refusals.proofs.Questions.{first_map}
use Rattle.plan.specs.File.{plan_number, window_count}
use Rattle.overlap.specs.Overlap.{overlaps}
use Rattle.plan.specs.AcceptedWindows.{AcceptedWindows}
use Rattle.overlap.proofs.Counted.{windows_order}
use Rattle.forest.specs.Parents.{parent_in, looked_up}
use Rattle.forest.proofs.Parented.{held_parents}
use Rattle.minutes.specs.Tables.{last_of, parent_of}
use Rattle.minutes.specs.SingleTable.{table_questions, table_answer_of}
use Rattle.minutes.proofs.SingleTabled.{table_fills}
use Rattle.std.specs.Prelude.{Result, Ok, Err}
use Rattle.numbering.specs.declared.filling.Built.{Built}
use Rattle.numbering.specs.Tables.{component_of, depth_of, rank_of, last_rank_of, component_count}
use Rattle.numbering.specs.Numbering.{least_room, built_as, numbers_answer_of}

-- Room for so many windows in each of the five tables.
pub record Rooms (windows parents components depths ranks last_ranks : ℕ) : Type 0 where
  pub parents_room : windows ≤ parents
  pub components_room : windows ≤ components
  pub depths_room : windows ≤ depths
  pub ranks_room : windows ≤ ranks
  pub last_ranks_room : windows ≤ last_ranks

pub least_rooms : (n room p c d r l : ℕ) → n ≤ least_room room p c d r l → Rooms n p c d r l × (n ≤ room)
least_rooms n room p c d r l h = (
  record {
    parents_room = omega arith;
    components_room = omega arith;
    depths_room = omega arith;
    ranks_room = omega arith;
    last_ranks_room = omega arith;
  },
  omega arith,
)

-- The passes over a table that holds an accepted plan's parents fill its tables.
module _ {file : List ℕ} {windows : ℕ} (plan : AcceptedWindows file windows) {parents : List ℕ} (held : Holds parents (parent_of file) windows) where
  same : (v : ℕ) → v < windows → parent_in parents v ≡ parent (overlaps file) v
  unfolding parent_of
  same = held_parents (tree (overlaps file)) windows parents held

  pub roots_counted : (r : ℕ) → r ≡ count (Forest.is_root (parent_in parents)) windows → r ≡ component_count file
  unfolding component_count
  roots_counted r e = e ∙ rw (← plan.counted) (count_cong _ _ windows (root_test_agrees (tree (overlaps file)) same))

  module _ (before now : List ℕ) where
    pub components_filled : now ≡ overwritten before (table (Forest.component (parent_in parents)) windows) →
        now ≡ overwritten before (table (component_of file) windows)
    unfolding component_of
    components_filled e = e ∙ ap (overwritten before) (table_cong _ _ windows (component_agrees (tree (overlaps file)) same))

    pub depths_filled : now ≡ overwritten before (table (Forest.depth (parent_in parents)) windows) →
        now ≡ overwritten before (table (depth_of file) windows)
    unfolding depth_of
    depths_filled e = e ∙ ap (overwritten before) (table_cong _ _ windows (depth_agrees (tree (overlaps file)) same))

    pub ranks_filled : now ≡ overwritten before (table (Forest.rank windows (parent_in parents)) windows) →
        now ≡ overwritten before (table (rank_of file) windows)
    unfolding rank_of
    ranks_filled e =
        e ∙ ap (overwritten before) (table_cong _ _ windows
        (λ v h. rank_agrees (tree (overlaps file)) same v h ∙ ap (λ n. rank n (overlaps file) v) plan.counted))

-- Ranks looked up by lasts are the ranks of the lasts. They take the lasts' place in one table.
module _ {file : List ℕ} {windows : ℕ} (plan : AcceptedWindows file windows) {lasts ranks : List ℕ} (lasting : Holds lasts (last_of file) windows)
    (ranking : Holds ranks (rank_of file) windows) where
  last_rank_found : (v : ℕ) → v < windows → get_or ranks (get_or lasts v 0) 0 ≡ last_rank_of file v
  unfolding last_of rank_of last_rank_of last_rank
  last_rank_found v h =
      let within : last (window_count file) (overlaps file) v < windows = rw (← plan.counted) (last_below (windows_order plan) v h) in
      rw (lasting.at v h) (ranking.at _ within)

  pub last_ranks_filled : (before now : List ℕ) → lasts ≡ overwritten before (table (last_of file) windows) →
      now ≡ overwritten lasts (table (looked_up ranks lasts) windows) → now ≡ overwritten before (table (last_rank_of file) windows)
  last_ranks_filled before now first second =
      second ∙ (ap (overwritten lasts) (table_cong _ _ windows last_rank_found)
      ∙ (rw first (overwritten_again before _ _ (length_table (last_of file) windows ∙ sym (length_table (last_rank_of file) windows)))))

-- The answer of the call that fills the parents and the lasts, as that of all five tables.
abbrev pub built : List ℕ → Result ℕ Refusal → Result Built Refusal
built file (Ok windows) = built_as (plan_number file) windows (component_count file)
built file (Err refusal) = Err refusal

pub numbers_tables : (file : List ℕ) (room : ℕ) → numbers_answer_of file room ≡ built file (table_answer_of file room)
unfolding table_answer_of numbers_answer_of
numbers_tables file room = sym (first_map (built file) (table_questions file room) Err (Ok (window_count file)))

pub numbers_built : (file : List ℕ) (room windows number components : ℕ) → Ok windows ≡ table_answer_of file room → number ≡ plan_number file →
    components ≡ component_count file → built_as number windows components ≡ numbers_answer_of file room
numbers_built file room windows number components e named counted =
    rw (named, counted) (ap (built file) e ∙ sym (numbers_tables file room))

-- The numbers of an answer that is no refusal.
abbrev said_plan : Result Built Refusal → ℕ
said_plan (Ok whole) = whole.plan
said_plan (Err refusal) = 0

abbrev said_windows : Result Built Refusal → ℕ
said_windows (Ok whole) = whole.windows
said_windows (Err refusal) = 0

-- Tables that are filled are those of an accepted plan, whose windows have room in all of them.
pub numbers_fill : (file : List ℕ) (room number windows components : ℕ) → numbers_answer_of file room ≡ built_as number windows components →
    AcceptedWindows file windows × (windows ≤ room) × (number ≡ plan_number file)
numbers_fill file room number windows components e = by_answer (table_answer_of file room) refl
  where
    by_answer : (t : Result ℕ Refusal) → table_answer_of file room ≡ t → AcceptedWindows file windows × (windows ≤ room) × (number ≡ plan_number file)
    by_answer (Err refusal) t =
        let z : ◌≡◌ {A = ℕ} 0 1 = cc (ap (built file) t, numbers_tables file room) in
        absurd (omega arith)
    by_answer (Ok n) t =
        let whole : built file (Ok n) ≡ built_as number windows components = sym (ap (built file) t) ∙ (sym (numbers_tables file room) ∙ e) in
        let same : windows ≡ n = sym (ap said_windows whole) in
        let fills = table_fills file room n t in
        rw same (fills.0, fills.1, sym (ap said_plan whole))
