-- Reach, in reading order.
--   Reach   the questions and the answer
--   Passes  what the passes behind it are handed and find; no public promise cites it
pub mod Reach
pub mod Passes
