-- Answers from a plan, in reading order.
--   Chain       the chain between two windows
--   Steps       what the walk behind `chain` counts and writes; no public promise cites it
pub mod Chain
pub mod Steps
