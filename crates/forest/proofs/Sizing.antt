-- The pass that adds up sizes from the end: its invariant, and one turn of it, at a child and at a root.
-- Vocabulary: Sized, sized_start, sized_child, sized_root, sized_end.
-- Assumes nothing.
use Prim.Native.Nat.{ℕ, suc, ◌+◌, ◌-◌, ◌≤◌, ◌<◌}
use mathlib.Core.{Path.◌≡◌, Path.sym, Path.ap, Path.◌∙◌, Logic.⊎_elim, List.List}
use native.Mathlib.Omega.{arith}
use lib.ListN.{get_or, set, length-set, replicate, length-replicate, get_or-replicate}
use lib.Seq.{get_or-set_same, get_or-set_other}
use Rattle.sequences.specs.Table.{Holds}
use Rattle.sequences.proofs.Tests.{equal_or_not}
use Rattle.interval_graph.specs.Forest.{Forest, size}
use Rattle.interval_graph.proofs.Rank.{size_le}
use Rattle.forest.proofs.Counted.{sizes_from, sizes_none, sizes_known, sizes_most, sizes_parent, sizes_other}

-- Each window under itself, before any other is added.
pub ones_held : (n m : ℕ) → n ≤ m → Holds (replicate m 1) (λ _. 1) n
ones_held n m le = record { long = omega (arith, length-replicate {A = ℕ} m 1); at = λ k h. get_or-replicate m k 1 0 (omega arith) }

-- With the windows from `left` on added up.
pub record Sized (n : ℕ) (parent : ℕ → ℕ) (sizes : List ℕ) (left : ℕ) : Type 0 where
  pub within : left ≤ n
  pub held : Holds sizes (sizes_from n parent left) n

module _ {parent : ℕ → ℕ} (forest : Forest parent) (n : ℕ) (sizes : List ℕ) where
  pub sized_start : Holds sizes (λ _. 1) n → Sized n parent sizes n
  sized_start ones =
      record { within = omega arith; held = record { long = ones.long; at = λ k h. ones.at k h ∙ sym (sizes_none n forest k) } }

  pub sized_end : (left : ℕ) → left ≤ 0 → Sized n parent sizes left → Holds sizes (size n parent) n
  sized_end left none s =
      record { long = s.held.long; at = λ k h. s.held.at k h ∙ sizes_known n forest k left h (omega arith) s.within }

  -- One window more, the one before those from `left` on.
  module _ (left p v : ℕ) (some : v ≡ left - 1) (more : 0 < left) (s : Sized n parent sizes left) (same : p ≡ parent v) where
    whole : Sized n parent sizes (suc v)
    whole = let e : left ≡ suc v = omega arith in rw e at s

    own : get_or sizes v 0 ≡ size n parent v
    own = whole.held.at v whole.within ∙ sizes_known n forest v (suc v) whole.within (omega arith) whole.within

    -- The sum that is stored fits.
    pub sum_few : p < v → get_or sizes p 0 + get_or sizes v 0 ≤ n
    sum_few below =
        let less : parent v < v = rw same at below in
        omega (
          arith,
          whole.held.at p (omega (arith, whole.within)),
          own,
          ap (sizes_from n parent (suc v)) same,
          sizes_parent n forest v whole.within less,
          sizes_most n forest (parent v) v (omega (arith, whole.within)) (omega (arith, whole.within)),
          size_le n forest (parent v) (omega (arith, whole.within)),
        )

    -- A child's size is added to its parent's.
    pub sized_child : p < v → Sized n parent (set sizes p (get_or sizes p 0 + get_or sizes v 0)) v
    sized_child below =
        record {
          within = omega (arith, whole.within);
          held = record {
            long = omega (arith, whole.held.long, length-set sizes p (get_or sizes p 0 + get_or sizes v 0));
            at = λ k h.
                ⊎_elim (λ here. rw here (omega (
                  arith,
                  get_or-set_same sizes p (get_or sizes p 0 + get_or sizes v 0) 0 (omega (arith, whole.held.long, whole.within)),
                  whole.held.at p (omega (arith, whole.within)),
                  own,
                  rw (← same) at (sizes_parent n forest v whole.within (rw same at below)),
                ))) (λ other.
                get_or-set_other sizes p k (get_or sizes p 0 + get_or sizes v 0) 0 other
                ∙ (whole.held.at k h ∙ sym (sizes_other n forest v whole.within k (λ l e. other (e ∙ sym same))))) (equal_or_not k p);
          };
        }

    -- A root's is added to none.
    pub sized_root : v ≤ p → Sized n parent sizes v
    sized_root root =
        record {
          within = omega (arith, whole.within);
          held = record {
            long = whole.held.long;
            at = λ k h. whole.held.at k h ∙ sym (sizes_other n forest v whole.within k (λ l e. omega arith));
          };
        }
