-- What two tags answer.
--   Pairing  questions 9 to 12 to two tags, and the answer; the same for two positions of a tag file
--   Order    what the code compares of two tags; no public promise cites it
pub mod Pairing
pub mod Order
