-- Laws, in the order in which they rest on one another.
--   Meeting       which windows overlap one, as the code asks it, and the search for its last
--   Neighbouring  the passes that list the windows which overlap one, and the answers of `neighbours`
--   Meaning       what the answers say, in the paper's words
--   Plan12        the paper's plan, computed
pub mod Meeting
pub mod Neighbouring
pub mod Meaning
pub mod Plan12
