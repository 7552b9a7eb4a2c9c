-- The way up to the window whose parent is a root.
-- Vocabulary: Upward, ParentsOf, TopFound, Topping.
-- Assumes nothing.
use Prim.Native.Nat.{ℕ, suc, ◌-◌, ◌≤◌, ◌<◌}
use mathlib.Core.{Bool.Bool, Path.◌≡◌, Path.sym, Path.ap, Path.◌∙◌, Logic.⊎_elim, List.List}
use native.Mathlib.Omega.{arith}
use lib.ListN.{get_or}
use Rattle.sequences.proofs.Tests.{lt_or_ge}
use Rattle.sequences.specs.Table.{Holds}
use Rattle.interval_graph.specs.Order.{IntervalOrder}
use Rattle.interval_graph.specs.Tree.{parent, ancestor, depth}
use Rattle.interval_graph.proofs.Ancestor.{ancestor_zero, ancestor_suc}
use Rattle.interval_graph.proofs.Depth.{fixed_root, root_parent, depth_minimal, ancestor_past}
use Rattle.interval_graph.proofs.Parent.{tree}
use Rattle.reaching.specs.Passes.{top_of}

-- No entry up to a position points behind its own.
abbrev pub Upward : List ℕ → ℕ → Type 0
Upward parents at = (v : ℕ) → v ≤ at → get_or parents v 0 ≤ v

-- n windows with an overlap test in interval order, and a table of their parents. What is found in a table alone is said of every such test.
pub record ParentsOf (n : ℕ) (overlaps : ℕ → ℕ → Bool) (parents : List ℕ) : Type 0 where
  pub order : IntervalOrder n overlaps
  pub held : Holds parents (parent overlaps) n

abbrev pub TopFound : List ℕ → (v r : ℕ) → Type 0
TopFound parents v r = (n : ℕ) (overlaps : ℕ → ℕ → Bool) → ParentsOf n overlaps parents → v < n → r ≡ top_of overlaps v

-- Where the way up stands, the parent there, and, of every overlap test, how many steps it made: it is not yet at the root.
pub record Topping (parents : List ℕ) (from at up : ℕ) : Type 0 where
  pub low : at ≤ from
  pub within : up ≤ from
  pub parent_read : up ≡ get_or parents at 0
  pub stands : (n : ℕ) (overlaps : ℕ → ℕ → Bool) → ParentsOf n overlaps parents → from < n →
      (k : ℕ) × (at ≡ ancestor overlaps k from) × (k ≤ depth overlaps from - 1)

module _ (parents : List ℕ) (from : ℕ) (upward : Upward parents from) where
  pub topping_start : (up : ℕ) → up ≡ get_or parents from 0 → Topping parents from from up
  topping_start up e =
      record {
        low = omega arith;
        within = omega (arith, upward from (omega arith));
        parent_read = e;
        stands = λ n overlaps p h. (0, sym (ancestor_zero (tree overlaps) from), omega arith);
      }

  module _ (at up : ℕ) (s : Topping parents from at up) where
    module _ (n : ℕ) (overlaps : ℕ → ℕ → Bool) (p : ParentsOf n overlaps parents) (h : from < n) where
      steps : ℕ
      steps = (s.stands n overlaps p h).0

      step_up : up ≡ ancestor overlaps (suc steps) from
      unfolding steps
      step_up =
          s.parent_read ∙ (p.held.at at (omega (arith, s.low)) ∙ (ap (parent overlaps) (s.stands n overlaps p h).1 ∙ sym
          (ancestor_suc (tree overlaps) steps from)))

      entry_up : get_or parents up 0 ≡ parent overlaps up
      entry_up = p.held.at up (omega (arith, s.within))

      -- Where the parent is a root, no step is left.
      arrived : get_or parents up 0 ≡ up → depth overlaps from ≤ suc steps
      arrived e = depth_minimal (tree overlaps) from (suc steps) (rw step_up at (fixed_root (tree overlaps) up (sym entry_up ∙ e)))

      -- Where it is none, one is.
      left : (get_or parents up 0 ≡ up → ⊥) → suc steps < depth overlaps from
      left other =
          ⊎_elim (λ l. l) (λ l. absurd (other (entry_up ∙ rw (step_up, ancestor_past (tree overlaps) from (suc steps) l) (root_parent (tree
          overlaps) from))))
          (lt_or_ge (suc steps) (depth overlaps from))

    pub topping_turn : (get_or parents up 0 ≡ up → ⊥) → (next : ℕ) → next ≡ get_or parents up 0 → Topping parents from up next
    unfolding steps
    topping_turn other next e =
        record {
          low = s.within;
          within = omega (arith, upward up s.within, s.within);
          parent_read = e;
          stands = λ n overlaps p h. (suc (steps n overlaps p h), step_up n overlaps p h, omega (arith, left n overlaps p h other));
        }

    pub topping_end : get_or parents up 0 ≡ up → TopFound parents from at
    unfolding steps
    topping_end e n overlaps p h =
        let same : steps n overlaps p h ≡ depth overlaps from - 1 = omega (arith, arrived n overlaps p h e, (s.stands n overlaps p h).2) in
        (s.stands n overlaps p h).1 ∙ ap (λ k. ancestor overlaps k from) same
