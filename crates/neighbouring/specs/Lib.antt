-- Answers from a plan.
--   Neighbours  the windows that overlap one window
pub mod Neighbours
