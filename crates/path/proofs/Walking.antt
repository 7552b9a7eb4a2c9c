-- The chain between two windows by the number of windows that stand on it before the earlier one; and the walk being written.
-- Vocabulary: stands, walking, between.
-- Assumes nothing.
use Prim.Native.Nat.{ℕ, suc, ◌+◌, ◌≤◌, ◌<◌, min, max}
use mathlib.Core.{Path.◌≡◌, Path.refl, Path.sym, Path.ap, Path.◌∙◌, Logic.⊎_elim, List.List, List.[], List.◌∷◌, List.◌++◌}
use Rattle.std.specs.Prelude.{Some, None, Ok, Err}
use Rattle.std.proofs.lemmas.Grind.{common_steps}
use native.Mathlib.Omega.{arith}
use native.Mathlib.Numerals.{add-one}
use lib.ListN.{length, get_or, set, take, drop, length-append, length-take}
use borrow.Author.Tests.{eq-eqb, ne_eqb, lt-leb}
use Rattle.sequences.specs.Table.{table, overwritten, Holds}
use Rattle.sequences.proofs.Tests.{lt_or_ge, equal_or_not}
use Rattle.sequences.proofs.Table.{length_table, length_overwritten_table, overwritten_none, overwritten_next, overwritten_front}
use Rattle.sequences.proofs.Appending.{written_more}
use Rattle.interval_graph.specs.Tree.{ancestor}
use Rattle.interval_graph.specs.Walk.{climb, walk}
use Rattle.interval_graph.proofs.Parent.{tree}
use Rattle.interval_graph.proofs.Ancestor.{ancestor_zero, ancestor_suc, ancestor_le}
use Rattle.interval_graph.proofs.ShortestChain.{chain_same, chain_walk, chain_none, chain_symmetric}
use Rattle.refusals.specs.Question.{refusal_by}
use Rattle.plan.specs.File.{window_count}
use Rattle.overlap.specs.Overlap.{overlaps}
use Rattle.minutes.specs.Tables.{parent_of}
use Rattle.path.specs.Steps.{steps_before, steps_found, walked, chain_rest}
use Rattle.path.specs.Chain.{chain_between, chain_found, after_chain}

module _ (file : List ℕ) (u v : ℕ) where
  module _ (steps : ℕ) (before : u ≤ v) (e : steps ≡ steps_before file u v) where
    -- More steps than there are windows up to v lead nowhere.
    pub between_apart : v + 1 < steps → chain_between file u v ≡ []
    unfolding chain_between
    between_apart h =
        ⊎_elim (λ s. absurd (omega (arith, rw (eq-eqb u v s) at e))) (λ d. let p : min u v ≡ u = omega arith in
        let q : max u v ≡ v = omega arith in
        let some : steps ≡ suc (climb (window_count file) (overlaps file) u v) = rw (ne_eqb u v d) at e in
        let far : v < climb (window_count file) (overlaps file) u v = omega arith in
        chain_none (window_count file) (overlaps file) u v d (rw (p, q) far)) (equal_or_not u v)

    -- Others are the chain's.
    pub between_walked : steps ≤ v + 1 → chain_between file u v ≡ walked file u v steps
    unfolding chain_between walk table
    between_walked h =
        ⊎_elim (λ s. let none : steps ≡ 0 = rw (eq-eqb u v s) at e in
        rw none (chain_same (window_count file) (overlaps file) u v s)) (λ d. let p : min u v ≡ u = omega arith in
        let q : max u v ≡ v = omega arith in
        let some : steps ≡ suc (climb (window_count file) (overlaps file) u v) = rw (ne_eqb u v d) at e in
        let near : climb (window_count file) (overlaps file) u v ≤ v = omega arith in
        rw some (chain_walk (window_count file) (overlaps file) u v d (rw (p, q) near)
        ∙ (ap (λ x. walk (window_count file) (overlaps file) x (max u v)) p ∙ ap (λ y. walk (window_count file) (overlaps file) u y) q))) (equal_or_not u v)

    -- They are one less than its entries.
    pub between_length : steps ≤ v + 1 → steps + 1 ≡ length (chain_between file u v)
    between_length h =
        rw (between_walked h)
        (omega (arith, length-append (table (λ i. ancestor (overlaps file) i v) steps) (u ∷ []), length_table (λ i. ancestor (overlaps file) i v) steps))

  -- By what was counted.
  module _ (before : u ≤ v) where
    pub found_none : steps_found file u v ≡ None → chain_between file u v ≡ []
    found_none e = between_apart (steps_before file u v) before refl (grind (arith, common_steps))

    module _ (steps : ℕ) (e : steps_found file u v ≡ Some steps) where
      few : (steps ≡ steps_before file u v) × (steps ≤ v + 1)
      few = grind (arith, common_steps)

      pub found_few : steps ≤ v + 1
      found_few = few.1

      pub found_walked : chain_between file u v ≡ walked file u v steps
      found_walked = between_walked steps before few.0 few.1

      pub found_length : length (chain_between file u v) ≡ steps + 1
      found_length = sym (between_length steps before few.0 few.1)

  -- The chain is the same in either order of naming.
  pub between_ordered : chain_between file (min u v) (max u v) ≡ chain_between file u v
  unfolding chain_between
  between_ordered =
      ⊎_elim (λ h. let p : min u v ≡ u = omega arith in let q : max u v ≡ v = omega arith in rw (p, q) refl)
      (λ h. let p : min u v ≡ v = omega arith in let q : max u v ≡ u = omega arith in
      rw (p, q) (chain_symmetric (window_count file) (overlaps file) v u)) (lt_or_ge u v)

pub chain_some : (chain : List ℕ) (n : ℕ) → length chain ≡ n + 1 → chain_found chain ≡ Ok (Some (n + 1))
unfolding chain_found
chain_some [] n e = absurd (omega arith)
chain_some (x ∷ l) n e = rw e refl

pub ruleset between = (found_none, found_few, found_walked, found_length, chain_some)

-- The walk being written: v and the windows above it, as many as so far.
module _ (file : List ℕ) (v : ℕ) where
  abbrev pub stands : ℕ → ℕ
  stands i = ancestor (overlaps file) i v

  -- It never stands behind v.
  pub stands_low : (step : ℕ) → stands step ≤ v
  stands_low step = ancestor_le (tree (overlaps file)) step v

  pub stands_first : stands 0 ≡ v
  stands_first = ancestor_zero (tree (overlaps file)) v

  -- The next stands where the entry says.
  pub stands_next : (parents : List ℕ) → Holds parents (parent_of file) (window_count file) → (step at : ℕ) → at ≡ stands step →
      at < window_count file → get_or parents at 0 ≡ stands (step + 1)
  unfolding parent_of
  stands_next parents held step at e h = rw (held.at at h, add-one step, ancestor_suc (tree (overlaps file)) step v, e) refl

-- The earlier window behind them, where what was handed over of the table is full.
pub walked_last : (f : ℕ → ℕ) (before : List ℕ) (index steps u : ℕ) → steps < length before → index ≡ length (take steps before) →
    set (overwritten (take steps before) (table f index) ++ drop steps before) steps u ≡ overwritten before (table f steps ++ (u ∷ []))
walked_last f before index steps u h full =
    let all : index ≡ steps = omega (arith, length-take {A = ℕ}) in
    rw (all, overwritten_front f before steps)
    (written_more before (overwritten before (table f steps)) (table f steps) steps u (sym (length_table f steps)) h
    (record { written = refl; long = length_overwritten_table f before steps (omega arith) })).written

pub ruleset walking = (stands_low, stands_first, stands_next, overwritten_none, overwritten_next, walked_last)

-- A table that is too short for a chain is refused, and stays as it was.
pub rest_short : (chain before : List ℕ) → length before < length chain → (Err (refusal_by 8) ≡ chain_rest chain (length before))
    × (before ≡ after_chain (Err (refusal_by 8)) chain before)
unfolding after_chain
rest_short chain before h = (rw (lt-leb (length chain) (length before) h), refl)
