-- How answers cross into C.
--   Packing  an answer as one number of 64 bits
--   Kinds    the number of each kind
pub mod Packing
pub mod Kinds
