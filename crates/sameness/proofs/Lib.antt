-- Laws, in the order in which they rest on one another.
--   Sameness  two plans that are the same, by lasts and by numbers, and the answers of `same`
--   Plan12    the paper's plan and others, computed
pub mod Sameness
pub mod Plan12
