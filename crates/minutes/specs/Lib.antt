-- Parents and lasts from minutes, and what the calls of this crate answer. In reading order:
--   Tables       parent and last of the window at each position of a plan file
--   SingleTable  one table by itself
--   EvenTable    one table of an even plan
--   Rooted       what clauses see of a plan with its parents
--   Passes       what the passes are handed and what their searches find; no public promise cites it
pub mod Tables
pub mod SingleTable
pub mod EvenTable
pub mod Rooted
pub mod Passes
