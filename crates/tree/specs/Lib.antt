-- What the calls of this crate answer. In reading order:
--   Build        build: the answer, and each table afterwards
--   Tagging      the tag file from the tables of its numbers; no public promise cites it
pub mod Build
pub mod Tagging
