-- The chain that the product writes, read from the later window: up from parent to parent until a position that the
-- earlier window's last reaches, and then the earlier window.
-- Vocabulary: climb, walk, chain_of.
use Rattle.std.specs.Prelude.{ℕ, suc, min, max, Bool, cond, List, [], ◌∷◌, ◌++◌, leb, eqb}
use Rattle.sequences.specs.Search.{least}
use Rattle.sequences.specs.Table.{table}
use Rattle.interval_graph.specs.Tree.{last, ancestor}

module _ (n : ℕ) (overlaps : ℕ → ℕ → Bool) where
  -- The steps up from v to a position at most the last of u; more than v where there are none.
  unfoldable pub climb : ℕ → ℕ → ℕ
  climb u v = least (λ j. leb (ancestor overlaps j v) (last n overlaps u)) (suc v)

  -- v, its parent, and so on for so many steps, and then u.
  unfoldable pub walk : ℕ → ℕ → List ℕ
  walk u v = table (λ i. ancestor overlaps i v) (suc (climb u v)) ++ (u ∷ [])

  -- The chain between two windows, from the later to the earlier; nothing where no chain joins them.
  unfoldable pub chain_of : ℕ → ℕ → List ℕ
  chain_of a b =
      let u = min a b in
      let v = max a b in
      cond (eqb a b) (a ∷ []) (cond (leb (climb u v) v) (walk u v) [])
