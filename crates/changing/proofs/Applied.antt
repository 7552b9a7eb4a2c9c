-- A change, applied: what the pieces hand on to one another, and what the call answers and leaves.
-- Vocabulary: edit_added, edit_withdrawn, addable, withdrawable, applied.
-- Assumes nothing.
use Prim.Native.Nat.{ℕ, ◌*◌, ◌≤◌, ◌<◌}
use mathlib.Core.{Path.◌≡◌, Path.sym, Path.ap, Path.◌∙◌, List.List}
use lib.ListN.{length, take}
use Rattle.std.specs.Prelude.{Result}
use Rattle.sequences.specs.Table.{overwritten}
use Rattle.sequences.proofs.Table.{take_overwritten}
use Rattle.refusals.specs.declared.refusal.Refusal.{Refusal}
use Rattle.plan.specs.declared.windows.Window.{Window}
use Rattle.plan.specs.File.{window_count}
use Rattle.plan.specs.Validation.{greatest_count}
use Rattle.tag_bytes.specs.Fields.{tag_length}
use Rattle.numbering.specs.declared.filling.Built.{Built}
use Rattle.numbering.specs.Tables.{numbers_at}
use Rattle.tree.specs.Build.{tags_answer_of, after_tags}
use Rattle.tree.proofs.Answered.{tags_made}
use Rattle.changing.specs.declared.records.Edit.{Edit}
use Rattle.changing.specs.declared.records.Edit.TheVariants.{Add, Withdraw}
use Rattle.changing.specs.declared.records.Change.{Change}
use Rattle.changing.specs.Change.{changed_file, adding, withdrawing}
use Rattle.changing.specs.Questions.{AcceptedChange, change_answer_of, after_change}
use Rattle.changing.proofs.Asked.{asked_accepted, change_added, change_withdrawn, change_accepted, change_answered}

-- A change is its number and what is to be done.
same : (c : Change) (edit : Edit) → c.edit ≡ edit → c ≡ record { plan = c.plan; edit = edit }
same c edit e = ap (λ (x : Edit). record { plan = c.plan; edit = x }) e

pub edit_added : (c : Change) (w : Window) → c.edit ≡ Add w → c ≡ adding c.plan w
edit_added c w e = same c (Add w) e

pub edit_withdrawn : (c : Change) (at : ℕ) → c.edit ≡ Withdraw at → c ≡ withdrawing c.plan at
edit_withdrawn c at e = same c (Withdraw at) e

module _ (file : List ℕ) (c : Change) (ok : AcceptedChange file c) where
  pub addable : (w : Window) → c.edit ≡ Add w → window_count file < greatest_count
  addable w e = let known : AcceptedChange file (adding c.plan w) = rw (edit_added c w e) at ok in (change_added file c.plan w known).0

  pub withdrawable : (at : ℕ) → c.edit ≡ Withdraw at → at < window_count file
  withdrawable at e =
      let known : AcceptedChange file (withdrawing c.plan at) = rw (edit_withdrawn c at e) at ok in change_withdrawn file c.plan at known

-- What the writing of either cites.
pub ruleset editing = (edit_added, edit_withdrawn, addable, withdrawable)

-- The tag file is that of the front of the buffer, which is the changed plan.
pub applied : (file : List ℕ) (c : Change) (before after tags tags' : List ℕ) (end : ℕ) (r : Result Built Refusal) → AcceptedChange file c →
    length (changed_file file c) ≤ length before → tag_length * window_count (changed_file file c) ≤ length tags →
    end ≡ length (changed_file file c) → after ≡ overwritten before (changed_file file c) → r ≡ tags_answer_of (take end after) (length tags) →
    tags' ≡ after_tags r (numbers_at (take end after)) tags →
    (r ≡ change_answer_of file c (length before) (length tags)) × (after ≡ after_change r (changed_file file c) before)
    × (tags' ≡ after_tags r (numbers_at (changed_file file c)) tags)
unfolding after_change
applied file c before after tags tags' end r ok long wide whole written answered tagged =
    let new = changed_file file c in
    let front : take end after ≡ new = rw (whole, written) (take_overwritten before new) in
    let made = tags_made new (length tags) (change_accepted file c ok) wide in
    let built = (rw front at answered) ∙ made in (
      built ∙ sym (change_answered file c (length before) (length tags) ok long wide),
      rw built written,
      rw front at tagged,
    )

-- What the call cites.
pub ruleset applying = (asked_accepted, change_accepted, tags_made, take_overwritten)
