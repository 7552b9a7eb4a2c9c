--   Sameness  whether the same pairs of windows overlap in two plans
pub mod Sameness
