-- The pass over the windows before one window that lists those which overlap it, the run of those behind it, and that the two are its
-- neighbours; and the answer after each test of the call, over plain numbers and lists.
-- Vocabulary: counted_turn, listed_turn, run_turn, neighbours_*.
-- Assumes nothing.
use Prim.Native.Nat.{ℕ, ◌+◌, ◌-◌, ◌≤◌, ◌<◌}
use mathlib.Core.{Bool.Bool, Bool.true, Bool.false, Path.◌≡◌, Path.refl, Path.sym, Path.ap, Path.◌∙◌, Logic.⊎_elim}
use mathlib.Core.List.{List, [], ◌∷◌, ◌++◌, append-nil}
use native.Mathlib.{Omega.arith, Numerals.add-one}
use mir.Val.{bool_byte}
use borrow.Author.Tests.{lt-ltb, le-ltb, le-leb, lt-leb}
use lib.ListN.{length, set, length-append}
use Rattle.sequences.specs.Search.{passing}
use Rattle.sequences.specs.Table.{table, overwritten}
use Rattle.sequences.proofs.{Tests.truth, Table.length_table, Table.length_overwritten, Passing.passing_add, Passing.passing_none, Passing.passing_every}
use Rattle.sequences.proofs.Appending.{Written, written_more, passing_more, passing_kept, passing_monotone, passing_few}
use Rattle.wire.specs.LittleEndian.{placed}
use Rattle.wire.proofs.LittleEndian.{placed_fits, length_placed, placed_behind, placed_overwritten}
use Rattle.interval_graph.proofs.Last.{last_overlap, neighbour_le_last}
use Rattle.std.specs.Prelude.{Ok, Err}
use Rattle.refusals.specs.Question.{refusal_by}
use Rattle.plan.specs.File.{window_count}
use Rattle.overlap.specs.Overlap.{overlaps}
use Rattle.plan.specs.Validation.{AcceptedPlan}
use Rattle.plan.proofs.{Acceptance.few_windows, Calls.plan_passed}
use Rattle.overlap.proofs.InOrder.{interval_order}
use Rattle.minutes.specs.Tables.{last_of}
use Rattle.neighbouring.specs.Neighbours.{neighbours_of, neighbours_questions, neighbours_answer_of}
use Rattle.neighbouring.proofs.Meeting.{last_within}

-- One position more: the list so far is longer by one where it passes, as a sum of the test's answer; and with that entry it is written.
module _ (p : ℕ → Bool) (v : ℕ) where
  pub counted_turn : length (passing p 0 (v + 1)) ≡ length (passing p 0 v) + bool_byte (p v)
  counted_turn =
      ⊎_elim (λ t. rw (passing_more p v t, t) (omega (arith, length-append (passing p 0 v) (v ∷ []))))
      (λ t. rw (passing_kept p v t, t) (omega arith)) (truth (p v))

  pub listed_turn : (before : List ℕ) → p v ≡ true → length (passing p 0 v) < length before →
      overwritten before (passing p 0 (v + 1)) ≡ set (overwritten before (passing p 0 v)) (length (passing p 0 v)) v
  listed_turn before t room = rw (passing_more p v t) (sym (written_more before _ (passing p 0 v) _ v refl room so_far).written)
    where
      so_far : Written before (overwritten before (passing p 0 v)) (passing p 0 v)
      so_far = record { written = refl; long = length_overwritten before (passing p 0 v) (omega arith) }

-- There is room for one that passes, where there is for all.
pub room_left : (p : ℕ → Bool) (v n : ℕ) → p v ≡ true → v < n → length (passing p 0 v) < length (passing p 0 n)
room_left p v n t less =
    omega (arith, passing_monotone p (v + 1) n (omega arith), counted_turn p v, ap bool_byte t)

-- Nothing is written yet.
pub overwritten_none : (before : List ℕ) → overwritten before [] ≡ before
unfolding overwritten
overwritten_none before = refl

pub placed_none : (before : List ℕ) (at : ℕ) → at ≤ length before → placed before at [] ≡ before
placed_none before at within = placed_fits before at [] (omega arith)

-- One number more of a run.
pub run_turn : (f : ℕ → ℕ) (before : List ℕ) (written step : ℕ) → written + step < length before →
    placed before written (table f (step + 1)) ≡ set (placed before written (table f step)) (written + step) (f step)
unfolding table
run_turn f before written step room =
    let so_far = table f step in
    let count : written + length so_far ≡ written + step = omega (arith, length_table f step) in
    rw (add-one step) ((rw count at (sym (placed_behind before written so_far (f step ∷ []) (omega (arith, length_table f step)))))
    ∙ placed_fits (placed before written so_far) (written + step) (f step ∷ []) (omega (arith, length_placed before written so_far)))

-- The neighbours are those of the windows before that overlap, and behind it all up to the last.
module _ (file : List ℕ) (ok : AcceptedPlan file) (at : ℕ) (own : at < window_count file) where
  abbrev last : ℕ
  last = last_of file at

  neighbours_split : neighbours_of file at ≡ passing (overlaps file at) 0 at ++ table (λ i. at + 1 + i) (last - at)
  unfolding neighbours_of last_of
  neighbours_split =
      let left = window_count file - (last + 1) in
      let all : window_count file ≡ (at + 1) + ((last - at) + left) = omega (arith, last_within file ok at own) in
      let e : 0 + (at + 1) ≡ at + 1 = omega arith in
      ap (passing (overlaps file at) 0) all ∙ passing_add (overlaps file at) 0 (at + 1) ((last - at) + left)
      ∙ rw (e, passing_kept (overlaps file at) at ((interval_order file ok).irreflexive at))
      (ap (λ (l : List ℕ). passing (overlaps file at) 0 at ++ l) behind)
    where
      run : passing (overlaps file at) (at + 1) (last - at) ≡ table (λ i. at + 1 + i) (last - at)
      run =
          passing_every (overlaps file at) (at + 1) (last - at)
          (λ v l r. last_overlap (interval_order file ok) at v (omega arith) (omega arith))

      none : (v : ℕ) → at + 1 + (last - at) ≤ v → v < at + 1 + (last - at) + (window_count file - (last + 1)) → overlaps file at v ≡ false
      none v l r =
          ⊎_elim (λ t. absurd (omega (
            arith,
            last_within file ok at own,
            neighbour_le_last (interval_order file ok) at v (omega (arith, last_within file ok at own)) t,
          ))) (λ t. t) (truth (overlaps file at v))

      behind : passing (overlaps file at) (at + 1) ((last - at) + (window_count file - (last + 1))) ≡ table (λ i. at + 1 + i) (last - at)
      behind =
          passing_add (overlaps file at) (at + 1) (last - at) (window_count file - (last + 1))
          ∙ rw (run, passing_none (overlaps file at) (at + 1 + (last - at)) (window_count file - (last + 1)) none)
          (append-nil (table (λ i. at + 1 + i) (last - at)))

  pub neighbours_counted : length (neighbours_of file at) ≡ length (passing (overlaps file at) 0 at) + (last - at)
  neighbours_counted =
      rw neighbours_split (omega (
        arith,
        length-append (passing (overlaps file at) 0 at) (table (λ i. at + 1 + i) (last - at)),
        length_table (λ i. at + 1 + i) (last - at),
      ))

  pub neighbours_written : (before : List ℕ) → length (neighbours_of file at) ≤ length before → overwritten before (neighbours_of file at)
      ≡ placed (overwritten before (passing (overlaps file at) 0 at)) (length (passing (overlaps file at) 0 at)) (table (λ i. at + 1 + i) (last - at))
  neighbours_written before room =
      rw neighbours_split
      (sym (placed_overwritten before (passing (overlaps file at) 0 at) (table (λ i. at + 1 + i) (last - at))
      (omega (arith, neighbours_counted, length_table (λ i. at + 1 + i) (last - at)))))

pub neighbours_few : (file : List ℕ) (at : ℕ) → length (neighbours_of file at) ≤ window_count file
unfolding neighbours_of
neighbours_few file at = passing_few (overlaps file at) 0 (window_count file)

-- What the answer is, by what is asked.
module _ (file : List ℕ) (ok : AcceptedPlan file) (at room : ℕ) where
  pub neighbours_past : window_count file ≤ at → Err (refusal_by 7) ≡ neighbours_answer_of file at room
  unfolding neighbours_answer_of neighbours_questions
  neighbours_past past = sym (plan_passed file _ Err _ ok ∙ rw (le-ltb at (window_count file) past))

  module _ (within : at < window_count file) where
    pub neighbours_short : room < length (neighbours_of file at) → Err (refusal_by 8) ≡ neighbours_answer_of file at room
    unfolding neighbours_answer_of neighbours_questions
    neighbours_short short =
        sym (plan_passed file _ Err _ ok ∙ rw (lt-ltb at (window_count file) within, lt-leb (length (neighbours_of file at)) room short))

    pub neighbours_listed : length (neighbours_of file at) ≤ room → Ok (length (neighbours_of file at)) ≡ neighbours_answer_of file at room
    unfolding neighbours_answer_of neighbours_questions
    neighbours_listed fits =
        sym (plan_passed file _ Err _ ok ∙ rw (lt-ltb at (window_count file) within, le-leb (length (neighbours_of file at)) room fits))

-- What the passes cite.
pub ruleset counting = (counted_turn, passing_few, neighbours_counted, last_within)

pub ruleset listing = (counted_turn, listed_turn, passing_kept, room_left, overwritten_none, few_windows)

pub ruleset running = (run_turn, placed_none)

pub ruleset writing = (neighbours_counted, neighbours_written, last_within)
