-- The numbers of a plan's windows, in reading order:
--   Tables       the numbers of the window at each position of a plan file
--   Numbering    the five tables of them: the answer, and each table afterwards
pub mod Tables
pub mod Numbering
