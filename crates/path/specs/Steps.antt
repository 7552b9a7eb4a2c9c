-- What the walk behind `chain` counts, writes and answers. Nothing here has to be believed: no public promise cites it.
-- Vocabulary: steps_up, steps_before, steps_found, walked, chain_rest.
use Rattle.std.specs.Prelude.{ℕ, suc, ◌+◌, cond, List, [], ◌∷◌, ◌++◌, length, eqb, leb, Option, Some, None, Result, Err}
use Rattle.sequences.specs.Table.{table}
use Rattle.interval_graph.specs.Tree.{ancestor}
use Rattle.interval_graph.specs.Walk.{climb}
use Rattle.refusals.specs.declared.refusal.Refusal.{Refusal}
use Rattle.refusals.specs.Question.{room_question, first_no}
use Rattle.plan.specs.File.{window_count}
use Rattle.overlap.specs.Overlap.{overlaps}
use Rattle.path.specs.Chain.{chain_found}

module _ (file : List ℕ) (u v : ℕ) where
  -- The steps up from v to a window that is not past the last of u, where there is one.
  abbrev pub steps_up : Option ℕ
  steps_up = cond (leb (climb (window_count file) (overlaps file) u v) v) (Some (climb (window_count file) (overlaps file) u v)) None

  -- How many windows stand before u on the chain from v to u; more than v + 1 where there is no chain.
  abbrev pub steps_before : ℕ
  steps_before = cond (eqb u v) 0 (suc (climb (window_count file) (overlaps file) u v))

  -- The same, where there is a chain.
  abbrev pub steps_found : Option ℕ
  steps_found = cond (leb steps_before (v + 1)) (Some steps_before) None

  -- v, its parent and so on, as many as `steps`, and then u.
  abbrev pub walked : ℕ → List ℕ
  walked steps = table (λ i. ancestor (overlaps file) i v) steps ++ (u ∷ [])

-- The answer that is left where both positions are those of windows.
abbrev pub chain_rest : List ℕ → ℕ → Result (Option ℕ) Refusal
chain_rest chain room = first_no (room_question (length chain) room ∷ []) Err (chain_found chain)
