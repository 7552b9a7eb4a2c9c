-- Laws, in the order in which they rest on one another.
--   Plan12     the worked example, by computation
--   Filled     a list whose first elements are replaced, and a page filled so
--   Filling    a loop that replaces the records of a lent slice one by one, for any type of record
pub mod Plan12
pub mod Filled
pub mod Filling
