-- Laws, in the order in which they rest on one another.
--   ShortPairing  the answer from two short tags by their readings, in either order, and from positions
--   Plan12        answers and refusals, by computation
pub mod ShortPairing
pub mod Plan12
