-- The pass that assigns ranks from the front: its invariant, and one turn of it, at a child and at a root.
-- Vocabulary: Ranked, ranked_start, ranked_child, ranked_root.
-- Assumes nothing.
use Prim.Native.Nat.{ℕ, suc, ◌+◌, ◌-◌, ◌≤◌, ◌<◌}
use mathlib.Core.{Path.◌≡◌, Path.refl, Path.sym, Path.ap, Path.◌∙◌, Logic.⊎_elim, List.List}
use native.Mathlib.Omega.{arith}
use native.Mathlib.Numerals.{add-one}
use lib.ListN.{length, get_or, set, length-set}
use lib.Seq.{get_or-set_same, get_or-set_other}
use Rattle.sequences.proofs.Tests.{equal_or_not, lt_or_ge}
use Rattle.sequences.proofs.Table.{Filling, filling_start, filling_turn}
use Rattle.interval_graph.specs.Forest.{Forest, rank, size, start}
use Rattle.interval_graph.proofs.Size.{start_root, rank_size, size_children}
use Rattle.interval_graph.proofs.Rank.{start_size_le}
use Rattle.forest.proofs.Counted.{starts_to, starts_child, starts_own, starts_parent, starts_other}

-- Before a position: the ranks are being filled, and for each window before it stands where its next child's list begins.
pub record Ranked (n : ℕ) (parent : ℕ → ℕ) (next₀ ranks₀ next ranks : List ℕ) (position : ℕ) : Type 0 where
  pub filling : Filling (rank n parent) n ranks₀ ranks position
  pub long : length next ≡ length next₀
  pub starts : (u : ℕ) → u < position → get_or next u 0 ≡ starts_to n parent position u

pub ranked_start : (n : ℕ) (parent : ℕ → ℕ) (next₀ ranks₀ : List ℕ) → Ranked n parent next₀ ranks₀ next₀ ranks₀ 0
ranked_start n parent next₀ ranks₀ =
    record { filling = filling_start (rank n parent) n ranks₀; long = refl; starts = λ u h. absurd (omega arith) }

-- At a window v with the parent p and the size k.
module _ {parent : ℕ → ℕ} (forest : Forest parent) (n p v k : ℕ) (h : v < n) (same : p ≡ parent v) (sized : k ≡ size n parent v) where
  -- Its list lies within its component's, and holds the window.
  pub list_few : start n parent v + k ≤ n
  list_few = omega (arith, start_size_le n forest v h)

  pub list_some : 1 ≤ k
  list_some = omega (arith, size_children n forest v h)

  module _ {next₀ ranks₀ next ranks : List ℕ} (s : Ranked n parent next₀ ranks₀ next ranks v) where
    -- What stands for a parent is where its child's list begins; a root's list begins at 0.
    pub child_start : p < v → get_or next p 0 ≡ start n parent v
    child_start below = s.starts p below ∙ (ap (starts_to n parent v) same ∙ starts_child n forest v (rw same at below))

    pub root_start : v ≤ p → 0 ≡ start n parent v
    root_start root = sym (start_root n forest v (omega (arith, forest.parent_le v)))

    -- The turn, where `next'` has for each window before v where its next child's list begins, with v among the children.
    turn : (next' : List ℕ) (start' : ℕ) → n ≤ length next₀ → n ≤ length ranks₀ → start' ≡ start n parent v → length next' ≡ length next → ((u : ℕ) →
        u < v → get_or next' u 0 ≡ starts_to n parent (suc v) u) → Ranked n parent next₀ ranks₀ (set next' v start') (set ranks v (start' + k - 1)) (v + 1)
    turn next' start' room fits begins kept earlier =
        record {
          filling = filling_turn (rank n parent) n ranks₀ ranks v (start' + k - 1) fits h (omega (arith, rank_size n forest v h)) s.filling;
          long = length-set next' v start' ∙ (kept ∙ s.long);
          starts = λ u uv.
              rw (add-one v) (⊎_elim (λ g. get_or-set_other next' v u start' 0 (omega arith) ∙ earlier u g)
              (λ g. let e : u ≡ v = omega arith in
              rw e (get_or-set_same next' v start' 0 (omega (arith, kept, s.long)) ∙ (begins ∙ sym (starts_own n forest v)))) (lt_or_ge u v));
        }

    module _ (room : n ≤ length next₀) (fits : n ≤ length ranks₀) where
      -- A root sets nothing aside.
      pub ranked_root : v ≤ p → Ranked n parent next₀ ranks₀ (set next v 0) (set ranks v (0 + k - 1)) (v + 1)
      ranked_root root =
          turn next 0 room fits (root_start root) refl (λ u uv. s.starts u uv ∙ sym (starts_other n forest u v (λ l e. omega arith)))

      -- A child's size is set aside in its parent's list.
      pub ranked_child : p < v → Ranked n parent next₀ ranks₀ (set (set next p (get_or next p 0 + k)) v (get_or next p 0)) (set ranks v
          (get_or next p 0 + k - 1)) (v + 1)
      ranked_child below =
          turn (set next p x) (get_or next p 0) room fits (child_start below) (length-set next p x) (λ u uv.
          ⊎_elim (λ here. rw here
          (omega (arith, get_or-set_same next p x 0 (omega (arith, s.long)), s.starts p below, rw (← same) at (starts_parent n forest v (rw same at below)))))
          (λ other.
          get_or-set_other next p u x 0 other ∙ (s.starts u uv ∙ sym (starts_other n forest u v (λ l e. other (e ∙ sym same)))))
          (equal_or_not u p))
        where
          x : ℕ
          x = get_or next p 0 + k
