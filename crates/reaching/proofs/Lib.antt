-- Laws, in the order in which they rest on one another.
--   Plan12                 the worked example, by computation
--   Topping                the way up to a window whose parent is a root
--   Descending, Levelling  the pass over a component's levels: of any overlap test, and over a table of parents
--   Seeking                the searches for a window that does not overlap another
--   Reached                reach from what they find, and the answers
pub mod Plan12
pub mod Topping
pub mod Descending
pub mod Levelling
pub mod Seeking
pub mod Reached
