-- Laws, in the order in which they rest on one another.
--   Lists    a list with one entry more or less
--   Changed  the changed file of any change
--   Added    a plan with a window more: its windows, and that it is accepted
--   Withdrawn  the same with a window less
--   Placed   the pass that finds the place of an added window
--   Asked    what is asked of a change, and what is known of one that passes
--   Written  the bytes of the changed plan, as the code puts them together
--   Applied  what the call answers and leaves
--   Kept     which numbers a change leaves as they were
--   Back     a window added and withdrawn again, or withdrawn and added again
--   Plan12   the worked example, by computation
pub mod Lists
pub mod Changed
pub mod Added
pub mod Withdrawn
pub mod Placed
pub mod Asked
pub mod Written
pub mod Applied
pub mod Kept
pub mod Back
pub mod Plan12
