-- Laws, in the order in which they rest on one another.
--   Questions a list of questions, however long
--   Turns     some lists, computed
pub mod Questions
pub mod Turns
