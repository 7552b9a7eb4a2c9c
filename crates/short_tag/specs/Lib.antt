-- What two short tags answer.
--   ShortPairing  questions 9 to 12 to two short tags, and the answer; the same for two positions of a file of them
pub mod ShortPairing
