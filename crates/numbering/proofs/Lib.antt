-- Laws, in the order in which they rest on one another.
--   Plan12   the worked example, by computation
--   Filled   room in each table, what each pass leaves in an accepted plan's tables, and the answers
pub mod Plan12
pub mod Filled
