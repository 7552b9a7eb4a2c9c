-- Laws, in the order in which they rest on one another.
--   Reading       where the windows lie in the file, and the table of their offsets
--   Searching     the searches inside the passes
--   Prepared      what they find in an accepted plan: parents and lasts
--   Reached       the test of overlap, and the last of a window
--   SingleTabled  the answers, and what a table that is filled holds
--   EvenTabled    the same for an even plan
--   Plan12        the worked example, by computation
pub mod Reading
pub mod Searching
pub mod Prepared
pub mod Reached
pub mod SingleTabled
pub mod EvenTabled
pub mod Plan12
