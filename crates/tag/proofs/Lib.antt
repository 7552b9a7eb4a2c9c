-- Laws, in the order in which they rest on one another.
--   Pairing   the answer from two tags by their readings, in either order, and the size of a count
--   Ordering  the number by which the code compares two tags
--   Plan12    the paper's answers, by computation
pub mod Pairing
pub mod Ordering
pub mod Plan12
