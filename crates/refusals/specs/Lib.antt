-- Refusals.
--   Numbers   the number of each question
--   Question  a list of questions, of which the first "no" is the answer; and 7 and 8, which many calls ask
pub mod Numbers
pub mod Question
