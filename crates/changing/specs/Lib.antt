-- A change of a plan, in reading order:
--   Change     the changed list of windows and the changed file
--   Questions  what is asked of a change, the answer, and the two buffers afterwards
--   Steps      what the pieces of the code hand on; no public promise cites it
pub mod Change
pub mod Questions
pub mod Steps
