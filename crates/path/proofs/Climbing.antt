-- The way up from the later window, and how many steps lead to one that does not stand behind the last of the earlier one.
-- Vocabulary: Climbing.
-- Assumes nothing.
use Prim.Native.Nat.{ℕ, suc, ◌+◌, ◌-◌, ◌≤◌, ◌<◌}
use mathlib.Core.{Bool.Bool, Bool.true, Bool.false, Path.◌≡◌, Path.sym, Path.◌∙◌, Logic.⊎_elim, List.List}
use Rattle.std.specs.Prelude.{Some, None}
use Rattle.std.proofs.lemmas.Grind.{common_steps}
use native.Mathlib.Omega.{arith}
use native.Mathlib.Numerals.{add-one}
use lib.Dec.{leb}
use borrow.Author.Tests.{le-leb, lt-leb}
use Rattle.sequences.proofs.Tests.{lt_or_ge}
use Rattle.sequences.proofs.Search.{least_unique}
use Rattle.interval_graph.specs.Tree.{last, parent, ancestor}
use Rattle.interval_graph.specs.Walk.{climb}
use Rattle.interval_graph.proofs.Parent.{parent_le, tree}
use Rattle.interval_graph.proofs.Ancestor.{ancestor_zero, ancestor_suc, ancestor_add}
use Rattle.interval_graph.proofs.Depth.{fixed_stays}
use Rattle.plan.specs.File.{window_count}
use Rattle.plan.specs.Validation.{AcceptedPlan}
use Rattle.overlap.specs.Overlap.{overlaps}
use Rattle.minutes.specs.Tables.{parent_of, last_of}
use Rattle.minutes.specs.Rooted.{above}
use Rattle.minutes.proofs.Reached.{reached, behind_last, not_behind}
use Rattle.path.specs.Steps.{steps_up}

-- The way up before a test: where it stands, that each step lowered the position, and that every window so far stands
-- behind the last of the earlier one.
pub record Climbing (n : ℕ) (overlaps : ℕ → ℕ → Bool) (u v at steps : ℕ) : Type 0 where
  pub stands : at ≡ ancestor overlaps steps v
  pub fell : at + steps ≤ v
  pub behind : (k : ℕ) → k < steps → last n overlaps u < ancestor overlaps k v

module _ (n : ℕ) (overlaps : ℕ → ℕ → Bool) (u v : ℕ) where
  pub climbing_start : Climbing n overlaps u v v 0
  climbing_start = record { stands = sym (ancestor_zero (tree overlaps) v); fell = omega arith; behind = λ k h. absurd (omega arith) }

  module _ (at steps : ℕ) (s : Climbing n overlaps u v at steps) where
    -- A step up to a parent that is another window.
    pub climbing_turn : (up : ℕ) → last n overlaps u < at → up ≡ parent overlaps at → (up ≡ at → ⊥) → Climbing n overlaps u v up (steps + 1)
    climbing_turn up past e other =
        record {
          stands = rw (add-one steps, ancestor_suc (tree overlaps) steps v, ← s.stands) e;
          fell = omega (arith, s.fell, parent_le overlaps at, other);
          behind = λ k h. ⊎_elim (s.behind k) (λ g. let f : k ≡ steps = omega arith in rw (f, ← s.stands) past) (lt_or_ge k steps);
        }

    -- The first window that is not behind the last is as many steps up as were made.
    pub climbing_arrived : at ≤ last n overlaps u → steps ≡ climb n overlaps u v
    unfolding climb
    climbing_arrived h =
        sym (least_unique (λ j. leb (ancestor overlaps j v) (last n overlaps u)) (suc v) steps (omega (arith, s.fell))
        (λ g. le-leb (ancestor overlaps steps v) (last n overlaps u) (rw (← s.stands) h)) (λ j g. lt-leb _ _ (s.behind j g)))

    -- Above a root there is none.
    pub climbing_root : last n overlaps u < at → at ≡ parent overlaps at → v + 1 ≡ climb n overlaps u v
    unfolding climb
    climbing_root past root =
        add-one v ∙ sym
        (least_unique (λ j. leb (ancestor overlaps j v) (last n overlaps u)) (suc v) (suc v) (omega arith) (λ g. absurd (omega arith))
        (λ j g. lt-leb _ _ (⊎_elim (s.behind j) (stays j) (lt_or_ge j steps))))
      where
        stays : (j : ℕ) → steps ≤ j → last n overlaps u < ancestor overlaps j v
        stays j h =
            let e : j ≡ (j - steps) + steps = omega arith in
            rw (e, ancestor_add (tree overlaps) (j - steps) steps v, ← s.stands, fixed_stays (tree overlaps) (j - steps) at (sym root)) past

-- The same in an accepted plan, by the one test of overlap and the parents of its windows.
module _ (file : List ℕ) (ok : AcceptedPlan file) (u v : ℕ) (own : u < window_count file) (within : v < window_count file)
    (at steps : ℕ) (s : Climbing (window_count file) (overlaps file) u v at steps) where
  past : reached file u at ≡ false → last (window_count file) (overlaps file) u < at
  unfolding last_of
  past far = behind_last file ok u own at (omega (arith, s.fell)) far

  pub climbs_on : (up : ℕ) → reached file u at ≡ false → Some up ≡ above file at →
      Climbing (window_count file) (overlaps file) u v up (steps + 1)
  unfolding parent_of
  climbs_on up far e =
      let i : at < window_count file = omega (arith, s.fell) in
      let up_is : up ≡ parent (overlaps file) at = grind (arith, common_steps) in
      let less : up < at = grind (arith, common_steps) in
      climbing_turn (window_count file) (overlaps file) u v at steps s up (past far) up_is (λ same. omega arith)

  pub climbs_out : reached file u at ≡ false → None ≡ above file at → steps_up file u v ≡ None
  unfolding parent_of
  climbs_out far e =
      let i : at < window_count file = omega (arith, s.fell) in
      let le = parent_le (overlaps file) at in
      let root : at ≡ parent (overlaps file) at = grind (arith, common_steps) in
      let many = climbing_root (window_count file) (overlaps file) u v at steps s (past far) root in
      grind (arith, common_steps)

  pub climbs_there : reached file u at ≡ true → steps_up file u v ≡ Some steps
  unfolding last_of
  climbs_there near =
      let there = climbing_arrived (window_count file) (overlaps file) u v at steps s
      (not_behind file ok u own at (omega (arith, s.fell)) near) in
      let few = s.fell in grind (arith, common_steps)
