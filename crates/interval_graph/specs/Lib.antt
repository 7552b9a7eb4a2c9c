-- What the product computes, over a number n of windows and an overlap test on their positions. Nothing here
-- knows of minutes or bytes. In reading order:
--   Chain    chains of any overlap test, their handovers, least numbers, shortest and earliest chains
--   Order    what is asked of the overlap test of a plan: interval order
--   Forest   depth, root, component, post-order and rank of any parent function
--   Tree     last and parent, and the forest of these parents
--   Walk     the chain that is written between two windows
--   Reach    how far apart the windows of a component are, and the first two that are
--   Numbers  the five numbers of a window, and what two windows' numbers say of their distance; the same without the fifth
pub mod Chain
pub mod Order
pub mod Forest
pub mod Tree
pub mod Walk
pub mod Reach
pub mod Numbers
