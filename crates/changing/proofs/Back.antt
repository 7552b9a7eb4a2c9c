-- A window that is added and withdrawn again, and one that is withdrawn and added again.
-- Vocabulary: added_withdrawn, added_withdrawable, withdrawn_addable, again_count, withdrawn_added, withdrawn_added_alone.
-- Assumes nothing.
use Prim.Native.Nat.{ℕ, suc, ◌-◌, ◌≤◌, ◌<◌}
use mathlib.Core.{Path.◌≡◌, Path.refl, Path.sym, Path.ap, Path.◌∙◌, Logic.⊎_elim, Logic.◌≢◌, List.List}
use native.Mathlib.Omega.{arith}
use borrow.Author.Tests.{lt-ltb, le-leb}
use Rattle.sequences.specs.Table.{table}
use Rattle.sequences.proofs.{Tests.lt_or_ge, Tests.equal_or_not, Table.table_cong}
use Rattle.plan.specs.declared.windows.Window.{Window}
use Rattle.plan.specs.File.{window_count, minimum_handover, window_at, end_of}
use Rattle.plan.specs.Validation.{greatest_count, greatest_end, AcceptedPlan}
use Rattle.plan.proofs.Acceptance.{accepted_sound, offsets_sorted}
use Rattle.changing.specs.Change.{windows_of, added_place, removed_at, changed_windows, changed_file, adding, withdrawing}
use Rattle.changing.specs.Questions.{has_place, edit_questions, AcceptedChange}
use Rattle.changing.proofs.{Lists.removed_inserted, Changed.same_offset, Changed.length-windows_of, Changed.changed_windows_lem}
use Rattle.changing.proofs.{Changed.changed_number, Changed.changed_minimum}
use Rattle.changing.proofs.Asked.{change_plan, change_withdrawn, change_accepted, accept_change}
use Rattle.changing.proofs.Added.{place_le, place_before, place_behind, added_count, added_before, added_there, added_behind}
use Rattle.changing.proofs.Withdrawn.{withdrawn_count, withdrawn_before, withdrawn_behind, withdrawn_accepted}

-- Added, and withdrawn at its place: the windows of before, of any file.
pub added_withdrawn : (file : List ℕ) (plan other : ℕ) (w : Window) →
    windows_of (changed_file (changed_file file (adding plan w)) (withdrawing other (added_place file w))) ≡ windows_of file
unfolding changed_windows
added_withdrawn file plan other w =
    let at = added_place file w in
    changed_windows_lem (changed_file file (adding plan w)) (withdrawing other at) ∙ (ap (removed_at at) (changed_windows_lem file (adding plan w))
    ∙ removed_inserted at (windows_of file) (omega (arith, place_le file w, length-windows_of file)) w)

-- It can be withdrawn there.
pub added_withdrawable : (file : List ℕ) (plan other : ℕ) (w : Window) → AcceptedChange file (adding plan w) → other ≢ plan →
    AcceptedChange (changed_file file (adding plan w)) (withdrawing other (added_place file w))
unfolding has_place edit_questions
added_withdrawable file plan other w ok new =
    let more = changed_file file (adding plan w) in
    accept_change more (withdrawing other (added_place file w)) (change_accepted file (adding plan w) ok) refl
    (λ e. new (e ∙ changed_number file (adding plan w)))
    (rw (lt-ltb (added_place file w) (window_count more) (omega (arith, place_le file w, added_count file plan w))))

-- A window that is withdrawn can be added again.
pub withdrawn_addable : (file : List ℕ) (plan other at : ℕ) → AcceptedChange file (withdrawing plan at) → other ≢ plan →
    AcceptedChange (changed_file file (withdrawing plan at)) (adding other (window_at file at))
unfolding has_place edit_questions
withdrawn_addable file plan other at ok new =
    let fewer = changed_file file (withdrawing plan at) in let s = accepted_sound file (change_plan file (withdrawing plan at) ok) in
    let there = change_withdrawn file plan at ok in let w = window_at file at in let same = changed_minimum file (withdrawing plan at) in
    accept_change fewer (adding other w) (change_accepted file (withdrawing plan at) ok)
    (lt-ltb (window_count fewer) greatest_count (omega (arith, s.few, withdrawn_count file plan at there)))
    (λ e. new (e ∙ changed_number file (withdrawing plan at)))
    (rw (
      same,
      le-leb (minimum_handover file) w.length (s.long at there),
      le-leb (end_of w) greatest_end (s.early at there),
    ))

-- Withdrawn, and added again.
module _ (file : List ℕ) (plan other at : ℕ) (ok : AcceptedPlan file) (there : at < window_count file) where
  abbrev w : Window
  w = window_at file at

  abbrev less : List ℕ
  less = changed_file file (withdrawing plan at)

  abbrev again : List ℕ
  again = changed_file less (adding other w)

  accepted : AcceptedPlan less
  accepted = withdrawn_accepted file plan at there ok

  pub again_count : window_count again ≡ window_count file
  again_count = added_count less other w ∙ withdrawn_count file plan at there

  rising : (u v : ℕ) → u ≤ v → v < window_count file → (window_at file u).offset ≤ (window_at file v).offset
  rising = offsets_sorted file (accepted_sound file ok)

  -- A window with another offset stands where it stood.
  pub withdrawn_added : (u : ℕ) → u < window_count file → (window_at file u).offset ≢ w.offset → window_at again u ≡ window_at file u
  withdrawn_added u h differ =
      ⊎_elim (λ l. let before : u < at = ⊎_elim (λ g. g) (λ g. absurd (omega (arith, rising at u g h))) (lt_or_ge u at) in
      let same = withdrawn_before file plan at there u before in
      let counted : u < added_place less w = ⊎_elim (λ g. g) (λ g. absurd (omega (
        arith,
        same_offset same,
        place_behind less w accepted u g (omega (arith, withdrawn_count file plan at there)),
      ))) (lt_or_ge u (added_place less w)) in added_before less other w u counted ∙ same)
      (λ l. let behind : at < u = ⊎_elim (λ g. g) (λ g. absurd (omega (arith, rising u at g there))) (lt_or_ge at u) in
      let k : ℕ = u - 1 in let same = withdrawn_behind file plan at there k u (omega arith) (omega arith) h in
      let passed : added_place less w ≤ k = ⊎_elim (λ g. absurd (differ (omega (arith, same_offset same, place_before less w accepted k g)))) (λ g. g)
      (lt_or_ge k (added_place less w)) in
      added_behind less other w u k (omega arith) passed (omega (arith, withdrawn_count file plan at there)) ∙ same)
      (lt_or_ge (window_at file u).offset w.offset)

  -- Where no other has its offset, all are as they were.
  module _ (alone : (u : ℕ) → u < window_count file → u ≢ at → (window_at file u).offset ≢ w.offset) where
    place : added_place less w ≡ at
    place =
        let p = added_place less w in let n = window_count file in let short = withdrawn_count file plan at there in
        ⊎_elim (λ l. absurd (let same = withdrawn_before file plan at there p l in
        omega (arith, same_offset same, rising p at (omega arith) there, place_behind less w accepted p (omega arith) (omega arith))))
        (λ l. ⊎_elim (λ g. absurd (let within : suc at < n = omega (arith, place_le less w) in
        let same = withdrawn_behind file plan at there at (suc at) refl (omega arith) within in
        alone (suc at) within (λ e. omega arith)
        (omega (arith, same_offset same, rising at (suc at) (omega arith) within, place_before less w accepted at g))))
        (λ g. omega arith) (lt_or_ge at p)) (lt_or_ge p at)

    pub withdrawn_added_alone : windows_of again ≡ windows_of file
    unfolding windows_of
    withdrawn_added_alone =
        ap (table (window_at again)) again_count
        ∙ table_cong (window_at again) (window_at file) (window_count file)
        (λ u h. ⊎_elim (λ e. added_there less other w u (e ∙ sym place) ∙ ap (window_at file) (sym e))
        (λ d. withdrawn_added u h (alone u h d)) (equal_or_not u at))
