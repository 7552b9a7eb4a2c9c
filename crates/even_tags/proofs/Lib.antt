-- Laws, in the order in which they rest on one another.
--   Shortened  the answers, and the tables that short tags are made of
--   Plan12     two plans, by computation
pub mod Shortened
pub mod Plan12
