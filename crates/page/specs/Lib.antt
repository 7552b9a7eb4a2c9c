-- A page of pairs, in reading order.
--   Page    question 9 of the tag file, the answer of a record, and every record filled
--   Passes  what is made of a record by itself
pub mod Page
pub mod Passes
