-- The same pass over a table of parents, of every overlap test whose parents it holds.
-- Vocabulary: LevelsFound, Levelling.
-- Assumes nothing.
use Prim.Native.Nat.{ℕ, suc, ◌+◌, ◌≤◌, ◌<◌}
use mathlib.Core.{Bool.Bool, Path.◌≡◌, List.List}
use native.Mathlib.Omega.{arith}
use native.Mathlib.Numerals.{add-one}
use lib.ListN.{get_or}
use Rattle.interval_graph.specs.Tree.{parent}
use Rattle.interval_graph.proofs.Parent.{parent_le}
use Rattle.reaching.specs.Passes.{Spine, Deepest}
use Rattle.reaching.proofs.Topping.{ParentsOf}
use Rattle.reaching.proofs.Descending.{Descent, descent_start, descent_level, descent_same, descent_end}

abbrev pub LevelsFound : List ℕ → (windows from steps first last : ℕ) → Type 0
LevelsFound parents windows from steps first last =
    (overlaps : ℕ → ℕ → Bool) → ParentsOf windows overlaps parents → Spine windows overlaps from →
    Deepest windows overlaps from steps first last

pub record Levelling (parents : List ℕ) (windows from steps first last : ℕ) : Type 0 where
  pub window : last < windows
  pub few : steps ≤ last
  pub descent : (overlaps : ℕ → ℕ → Bool) → ParentsOf windows overlaps parents → Spine windows overlaps from →
      Descent windows overlaps from steps first last

module _ (parents : List ℕ) (windows from : ℕ) where
  pub levelling_start : from < windows → Levelling parents windows from 0 from from
  levelling_start h =
      record { window = h; few = omega arith; descent = λ overlaps p spine. descent_start p.order from spine h }

  module _ (steps first last : ℕ) (s : Levelling parents windows from steps first last) where
    module _ (next : ℕ) (behind : next ≡ last + 1) (within : next < windows) where
      -- The entry is the next window's parent.
      next_parent : (overlaps : ℕ → ℕ → Bool) → ParentsOf windows overlaps parents → get_or parents next 0 ≡ parent overlaps (suc last)
      next_parent overlaps p = let e : next ≡ suc last = omega arith in rw e (p.held.at (suc last) (omega arith))

      module _ (other : get_or parents next 0 ≡ next → ⊥) where
        child : (overlaps : ℕ → ℕ → Bool) → ParentsOf windows overlaps parents → parent overlaps (suc last) < suc last
        child overlaps p = omega (arith, next_parent overlaps p, parent_le overlaps (suc last), other)

        pub levelling_level : first ≤ get_or parents next 0 → Levelling parents windows from (steps + 1) next next
        levelling_level begins =
            let e : next ≡ suc last = omega arith in
            rw (e, add-one steps)
            (record {
              window = omega arith;
              few = omega (arith, s.few);
              descent = λ overlaps p spine. descent_level p.order from spine steps first last (s.descent overlaps p spine) (omega arith)
                  (child overlaps p) (omega (arith, next_parent overlaps p));
            })

        pub levelling_same : get_or parents next 0 < first → Levelling parents windows from steps first next
        levelling_same stays =
            let e : next ≡ suc last = omega arith in
            rw e
            (record {
              window = omega arith;
              few = omega (arith, s.few);
              descent = λ overlaps p spine. descent_same p.order from spine steps first last (s.descent overlaps p spine) (omega arith)
                  (child overlaps p) (omega (arith, next_parent overlaps p));
            })

      pub levelling_stops : get_or parents next 0 ≡ next → LevelsFound parents windows from steps first last
      levelling_stops e overlaps p spine =
          descent_end p.order from spine steps first last (s.descent overlaps p spine) (λ h. omega (arith, next_parent overlaps p))

    pub levelling_ends : windows ≤ last + 1 → LevelsFound parents windows from steps first last
    levelling_ends done overlaps p spine =
        descent_end p.order from spine steps first last (s.descent overlaps p spine) (λ h. absurd (omega arith))
