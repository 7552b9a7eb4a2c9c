-- Laws, in the order in which they rest on one another.
--   Overlap  overlap by minutes
--   InOrder  the same by bounds, and in interval order
--   Margining  the margin, on either side of 0
--   Even     in an even plan no last falls
--   Counted  an accepted plan with so many windows: its order, and the bound of each
--   Plan12   the paper's plan, by computation
pub mod Overlap
pub mod InOrder
pub mod Margining
pub mod Even
pub mod Counted
pub mod Plan12
