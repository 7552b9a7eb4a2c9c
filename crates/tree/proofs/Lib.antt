-- Laws, in the order in which they rest on one another.
--   Plan12   the worked example, by computation
--   Answered room, tags and answers of build
pub mod Plan12
pub mod Answered
