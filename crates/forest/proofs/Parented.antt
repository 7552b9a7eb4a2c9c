-- The parent function that a table gives: a forest, whatever the table holds; and the parents that it holds, where none of them
-- points behind.
-- Assumes nothing.
use Prim.Native.Nat.{ℕ, ◌≤◌, ◌<◌, min}
use mathlib.Core.{Path.◌≡◌, Path.refl, List.List, List.[], List.◌∷◌}
use native.Mathlib.Omega.{arith}
use Rattle.sequences.specs.Table.{table, Holds}
use Rattle.interval_graph.specs.Forest.{Forest}
use Rattle.plan.specs.Validation.{greatest_count}
use Rattle.forest.specs.Parents.{parent_in, covered, looked_up}

pub table_forest : (parents : List ℕ) → Forest (parent_in parents)
unfolding parent_in
table_forest parents = record { parent_le = λ v. omega arith }

-- An entry behind its window, and one past the table's end, computed.
pub parents_read : table (parent_in (3 ∷ 0 ∷ 1 ∷ [])) 4 ≡ 0 ∷ 0 ∷ 1 ∷ 0 ∷ []
unfolding table parent_in
parents_read = refl

-- A place past the table's end, too.
pub places_read : table (looked_up (7 ∷ 8 ∷ 9 ∷ []) (2 ∷ 0 ∷ 3 ∷ [])) 3 ≡ 9 ∷ 7 ∷ 0 ∷ []
unfolding table
places_read = refl

-- A table that holds the parents of a forest gives that forest.
pub held_parents : {parent : ℕ → ℕ} → Forest parent → (n : ℕ) (parents : List ℕ) → Holds parents parent n → (v : ℕ) → v < n → parent_in parents v ≡ parent v
unfolding parent_in
held_parents forest n parents held v h = omega (arith, held.at v h, forest.parent_le v)

-- Where every table has room for as many, all the entries asked for are gone through.
pub covered_one : (n first : ℕ) → n ≤ greatest_count → n ≤ first → min (min n greatest_count) first ≡ n
covered_one n first few a = omega arith

pub covered_all : (n first second : ℕ) → n ≤ greatest_count → n ≤ first → n ≤ second → covered n first second ≡ n
covered_all n first second few a b = omega arith

pub covered_three : (n first second third : ℕ) → n ≤ greatest_count → n ≤ first → n ≤ second → n ≤ third → min (covered n first second) third ≡ n
covered_three n first second third few a b c = rw (covered_all n first second few a b) (omega arith)
