-- Paper 02, Q-6: adding and withdrawing.
-- Vocabulary: Changed, ChangedPlans, KeepsTag, WhollyBefore, AddingKeeps, WithdrawingKeeps, AddedWithdrawn, Again, WithdrawnAdded.
use Rattle.std.specs.Prelude.{ℕ, ◌*◌, ◌≤◌, ◌<◌, length, drop}
use mathlib.Core.{Bool.false, Path.◌≡◌, Logic.◌≢◌, List.List, List.◌++◌}
use Rattle.sequences.specs.Table.{overwritten}
use Rattle.interval_graph.specs.Tree.{component}
use Rattle.wire.specs.LittleEndian.{bytes16}
use Rattle.plan.specs.declared.windows.Window.{Window}
use Rattle.plan.specs.File.{plan_number, window_count, minimum_handover, window_at}
use Rattle.plan.specs.Validation.{AcceptedPlan}
use Rattle.overlap.specs.Overlap.{overlaps}
use Rattle.tag_bytes.specs.{Fields.tag_length, TagFile.tag_file}
use Rattle.numbering.specs.Tables.{numbers_at}
use Rattle.tree.specs.Build.{build_answer_of, after_tags}
use Rattle.changing.specs.declared.records.Change.{Change}
use Rattle.changing.specs.Change.{windows_of, added_place, changed_windows, changed_file, adding, withdrawing}
use Rattle.changing.specs.Questions.{AcceptedChange, change_answer_of, after_change}
use Rattle.demands.specs.EndToEnd.{tag_at}

-- What holds of a file and a change that can be made.
pub record Changed (file : List ℕ) (c : Change) : Type 0 where
  -- "A changed plan is a plan, with chains and counts as for any other": all that is said of accepted plans is said of it.
  pub accepted : AcceptedPlan (changed_file file c)
  -- It has "the new plan number", the old minimum, and the changed list of windows.
  pub number : plan_number (changed_file file c) ≡ c.plan
  pub renumbered : plan_number (changed_file file c) ≢ plan_number file
  pub minimum : minimum_handover (changed_file file c) ≡ minimum_handover file
  pub windows : windows_of (changed_file file c) ≡ changed_windows file c.edit
  -- "The changed plan and its tag file are written to two lent buffers": into any that hold them, and what lies past them stays.
  pub plan_written :
      (before : List ℕ) (tags : ℕ) → length (changed_file file c) ≤ length before → tag_length * window_count (changed_file file c) ≤ tags →
      after_change (change_answer_of file c (length before) tags) (changed_file file c) before ≡ overwritten before (changed_file file c)
  -- "The tags worked out for the changed plan equal a build from nothing": the answer and the tag file are those of build on the changed
  -- file, with five tables of any room for its windows.
  pub as_built :
      (changed : ℕ) (before : List ℕ) (p d k r l : ℕ) → length (changed_file file c) ≤ changed →
      tag_length * window_count (changed_file file c) ≤ length before →
      window_count (changed_file file c) ≤ p → window_count (changed_file file c) ≤ d → window_count (changed_file file c) ≤ k →
      window_count (changed_file file c) ≤ r → window_count (changed_file file c) ≤ l →
      (change_answer_of file c changed (length before) ≡ build_answer_of (changed_file file c) p d k r l (length before))
      × (after_tags (change_answer_of file c changed (length before)) (numbers_at (changed_file file c)) before
      ≡ overwritten before (tag_file (numbers_at (changed_file file c)) (window_count (changed_file file c))))

abbrev pub ChangedPlans : Type 0
ChangedPlans = (file : List ℕ) (c : Change) → AcceptedChange file c → Changed file c

-- A window that stands at the same position of two plans keeps its tag but for the plan number, of which two bytes stand in front.
abbrev pub KeepsTag : (before after : List ℕ) → ℕ → Type 0
KeepsTag before after v = tag_at after v ≡ bytes16 (plan_number after) ++ drop 2 (tag_at before v)

-- "components wholly before it that have no overlap with it": each window of v's component has a smaller position than the added window w,
-- and does not overlap it.
abbrev pub WhollyBefore : (file : List ℕ) (plan : ℕ) → Window → ℕ → Type 0
WhollyBefore file plan w v =
    (u : ℕ) → u < window_count file → component (overlaps file) u ≡ component (overlaps file) v →
    (u < added_place file w) × (overlaps (changed_file file (adding plan w)) u (added_place file w) ≡ false)

-- "For an added window, tags of" such components "keep all but the plan number".
abbrev pub AddingKeeps : Type 0
AddingKeeps =
    (file : List ℕ) (plan : ℕ) (w : Window) → AcceptedChange file (adding plan w) →
    (v : ℕ) → v < window_count file → WhollyBefore file plan w v →
    (window_at (changed_file file (adding plan w)) v ≡ window_at file v) × KeepsTag file (changed_file file (adding plan w)) v

-- "for a withdrawn one this holds of components with smaller numbers."
abbrev pub WithdrawingKeeps : Type 0
WithdrawingKeeps =
    (file : List ℕ) (plan at : ℕ) → AcceptedChange file (withdrawing plan at) → (v : ℕ) → v < window_count file →
    component (overlaps file) v < component (overlaps file) at →
    (window_at (changed_file file (withdrawing plan at)) v ≡ window_at file v) × KeepsTag file (changed_file file (withdrawing plan at)) v

-- A window that is added can be withdrawn at its place, and then the windows are those of before.
abbrev pub AddedWithdrawn : Type 0
AddedWithdrawn =
    (file : List ℕ) (plan other : ℕ) (w : Window) → AcceptedChange file (adding plan w) → other ≢ plan →
    AcceptedChange (changed_file file (adding plan w)) (withdrawing other (added_place file w))
    × (windows_of (changed_file (changed_file file (adding plan w)) (withdrawing other (added_place file w))) ≡ windows_of file)

-- A window that is withdrawn, and added again.
pub record Again (file : List ℕ) (at : ℕ) (again : List ℕ) : Type 0 where
  pub accepted : AcceptedPlan again
  pub count : window_count again ≡ window_count file
  -- Every window with another offset is as it was,
  pub elsewhere :
      (u : ℕ) → u < window_count file → (window_at file u).offset ≢ (window_at file at).offset → window_at again u ≡ window_at file u
  -- and where no other has its offset all are.
  pub alone :
      ((u : ℕ) → u < window_count file → u ≢ at → (window_at file u).offset ≢ (window_at file at).offset) → windows_of again ≡ windows_of file

abbrev pub WithdrawnAdded : Type 0
WithdrawnAdded =
    (file : List ℕ) (plan other at : ℕ) → AcceptedChange file (withdrawing plan at) → other ≢ plan →
    AcceptedChange (changed_file file (withdrawing plan at)) (adding other (window_at file at))
    × Again file at (changed_file (changed_file file (withdrawing plan at)) (adding other (window_at file at)))
