-- `forest::ranks::fill_ranks` meets its contract: sizes by one pass, ranks by the next.
use native.Mathlib.Omega.{arith}
use Rattle.forest.proofs.Sizing.{ones_held}
use Rattle.plan.specs.Validation.{greatest_count}
use Rattle.forest.proofs.ranks.fill_ranks.Goals as goal

pub add_sizes-requires-clause-holds : goal.add_sizes-requires-clause-holds
add_sizes-requires-clause-holds c = ones_held _ greatest_count (omega arith)
