-- Laws, in the order in which they rest on one another.
--   Parented  the forest that a table gives
--   Leveled   the pass that numbers components and depths
--   Counted   sizes and starts by the children met so far
--   Sizing    the pass that adds up sizes
--   Ranking   the pass that assigns ranks
pub mod Parented
pub mod Leveled
pub mod Counted
pub mod Sizing
pub mod Ranking
