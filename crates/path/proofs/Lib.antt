-- Laws, in the order in which they rest on one another.
--   Climbing    the way up from the later window
--   Walking     the chain by the number of its steps, and the walk being written
--   Chaining    the answer where a position is refused
--   Meaning     what the answers say, in the paper's words
--   Plan12      the paper's plan, computed
pub mod Climbing
pub mod Walking
pub mod Chaining
pub mod Meaning
pub mod Plan12
