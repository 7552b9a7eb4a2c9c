-- What the answers say of an accepted plan, in the paper's words: the chain is a shortest one with the earliest window at each
-- step, and empty exactly if no chain joins the two.
-- Assumes nothing.
use Prim.Native.Nat.{ℕ, ◌<◌}
use mathlib.Core.{Path.◌≡◌, Logic.◌↔◌, List.List, List.[]}
use Rattle.interval_graph.specs.Chain.{Joined, EarliestShortest}
use Rattle.interval_graph.proofs.ShortestChain.{chain_earliest_shortest, chain_empty_iff_apart}
use Rattle.plan.specs.File.{window_count}
use Rattle.overlap.specs.Overlap.{overlaps}
use Rattle.plan.specs.Validation.{AcceptedPlan}
use Rattle.overlap.proofs.InOrder.{interval_order}
use Rattle.path.specs.Chain.{chain_between}

module _ (file : List ℕ) (ok : AcceptedPlan file) where
  module _ (a b : ℕ) (within : a < window_count file) (within' : b < window_count file) where
    -- The chain between two windows that some chain joins is a shortest, with the earliest window at each step.
    pub chain_between_best : Joined (window_count file) (overlaps file) a b → EarliestShortest (window_count file) (overlaps file) a b (chain_between file a b)
    unfolding chain_between
    chain_between_best j = chain_earliest_shortest (interval_order file ok) a b within within' j

    -- There is none exactly if no chain joins them.
    pub chain_between_none : (chain_between file a b ≡ []) ↔ (Joined (window_count file) (overlaps file) a b → ⊥)
    unfolding chain_between
    chain_between_none = chain_empty_iff_apart (interval_order file ok) a b within within'
