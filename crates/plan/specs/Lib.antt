-- What a plan file is, and when it is refused. In reading order:
--   File        plan number, minimum handover, windows, their offsets, lengths and ends; the file of a list of windows
--   Validation  questions 1 to 6, and 14
--   Even        question 13: whether an end falls
--   Plan        what clauses see of an accepted plan
--   AcceptedWindows  an accepted plan with so many windows
pub mod File
pub mod Validation
pub mod Even
pub mod Plan
pub mod AcceptedWindows
