-- The C interface on tags: what is left in what is lent to it. What is answered is defined in the crates below, and how it is packed
-- into a number in `packing`.
--   Lent   a lookup's offset
--   Pages  the records of a page
pub mod Lent
pub mod Pages
