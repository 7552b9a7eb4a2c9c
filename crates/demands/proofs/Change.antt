-- Q-6: the changed plan is an accepted plan, answered as build answers it, and what a change leaves alone.
-- Assumes nothing.
use Prim.Native.Nat.{ℕ, ◌<◌}
use mathlib.Core.{Bool.Bool, Path.◌≡◌, Path.refl, Path.sym, Path.ap, Path.◌∙◌, List.List, List.◌++◌}
use native.Mathlib.Omega.{arith}
use lib.ListN.{length, drop}
use Rattle.interval_graph.specs.Numbers.{numbers_of}
use Rattle.wire.specs.LittleEndian.{bytes16}
use Rattle.plan.specs.File.{plan_number, window_count}
use Rattle.overlap.specs.Overlap.{overlaps}
use Rattle.tag_bytes.specs.Fields.{tag_bytes, short_bytes}
use Rattle.numbering.specs.Tables.{numbers_at}
use Rattle.numbering.proofs.Filled.{Rooms}
use Rattle.tree.specs.Build.{after_tags}
use Rattle.tree.proofs.Answered.{build_built}
use Rattle.changing.specs.Change.{changed_file, adding, withdrawing}
use Rattle.changing.specs.Questions.{after_change}
use Rattle.changing.proofs.Changed.{changed_number, changed_minimum, changed_windows_lem}
use Rattle.changing.proofs.Asked.{change_plan, change_other, change_withdrawn, change_accepted, change_answered}
use Rattle.changing.proofs.{Added.added_count, Added.added_before, Withdrawn.withdrawn_count, Withdrawn.withdrawn_before}
use Rattle.changing.proofs.Kept.{added_numbers, added_position, withdrawn_numbers, withdrawn_position}
use Rattle.changing.proofs.Back.{added_withdrawn, added_withdrawable, withdrawn_addable, again_count, withdrawn_added, withdrawn_added_alone}
use Rattle.demands.specs.Change.{ChangedPlans, KeepsTag, AddingKeeps, WithdrawingKeeps, AddedWithdrawn, WithdrawnAdded}
use Rattle.demands.proofs.Calls.{tag_bytes_lem}

pub changed_plans : ChangedPlans
unfolding after_change after_tags
changed_plans file c ok =
    record {
      accepted = change_accepted file c ok;
      number = changed_number file c;
      renumbered = λ e. change_other file c ok (sym (changed_number file c) ∙ e);
      minimum = changed_minimum file c;
      windows = changed_windows_lem file c;
      plan_written = λ before tags long wide. rw (change_answered file c (length before) tags ok long wide);
      as_built = λ changed before p d k r l long wide hp hd hk hr hl.
          let answer = change_answered file c changed (length before) ok long wide in
          let rooms : Rooms (window_count (changed_file file c)) p d k r l = record { parents_room = hp; components_room = hd; depths_room = hk; ranks_room = hr; last_ranks_room = hl } in
          (answer ∙ sym (build_built (changed_file file c) p d k r l (length before) (change_accepted file c ok) rooms wide), rw answer);
    }

-- A tag with another plan number has the same bytes behind it.
renumbered_bytes : (n : ℕ) (overlap : ℕ → ℕ → Bool) (plan other v : ℕ) →
    tag_bytes (numbers_of n overlap plan v) ≡ bytes16 plan ++ drop 2 (tag_bytes (numbers_of n overlap other v))
unfolding numbers_of tag_bytes short_bytes bytes16
renumbered_bytes n overlap plan other v = refl

keeps_tag : (before after : List ℕ) (v : ℕ) → v < window_count before → v < window_count after →
    numbers_of (window_count after) (overlaps after) (plan_number after) v ≡ numbers_of (window_count before) (overlaps before) (plan_number after) v →
    KeepsTag before after v
unfolding numbers_at
keeps_tag before after v h g same =
    tag_bytes_lem after v g ∙ (ap tag_bytes same ∙ (renumbered_bytes (window_count before) (overlaps before) (plan_number after) (plan_number before) v
    ∙ ap (λ (l : List ℕ). bytes16 (plan_number after) ++ drop 2 l) (sym (tag_bytes_lem before v h))))

pub adding_keeps : AddingKeeps
adding_keeps file plan w ok v h apart =
    let before = added_position file plan w ok v h apart in (
      added_before file plan w v before,
      keeps_tag file (changed_file file (adding plan w)) v h (omega (arith, added_count file plan w)) (added_numbers file plan w ok v h apart _),
    )

pub withdrawing_keeps : WithdrawingKeeps
withdrawing_keeps file plan at ok v h smaller =
    let there = change_withdrawn file plan at ok in let place = withdrawn_position file plan at ok v h smaller in (
      withdrawn_before file plan at there v (omega (arith, place)),
      keeps_tag file (changed_file file (withdrawing plan at)) v h (omega (arith, place, withdrawn_count file plan at there))
          (withdrawn_numbers file plan at ok v h smaller _),
    )

pub added_and_withdrawn : AddedWithdrawn
added_and_withdrawn file plan other w ok new = (added_withdrawable file plan other w ok new, added_withdrawn file plan other w)

pub withdrawn_and_added : WithdrawnAdded
withdrawn_and_added file plan other at ok new =
    let again = withdrawn_addable file plan other at ok new in
    let plain = change_plan file (withdrawing plan at) ok in let there = change_withdrawn file plan at ok in (
      again,
      record {
        accepted = change_accepted _ _ again;
        count = again_count file plan other at plain there;
        elsewhere = withdrawn_added file plan other at plain there;
        alone = withdrawn_added_alone file plan other at plain there;
      },
    )
