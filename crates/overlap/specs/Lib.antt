-- When two windows of a plan overlap, and by how much.
--   Overlap  the minutes that windows cover and share, and overlap
--   Margin   the smaller end less the greater offset
pub mod Overlap
pub mod Margin
