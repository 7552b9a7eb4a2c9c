-- The C interface on plan files: what is left in what is lent to it. What is answered is defined in the crates below, and how it is
-- packed into a number in `packing`.
--   Lent   the tables, the buffers and the margin's place
pub mod Lent
