-- The statements of specs/, proved: Refusals, Tree, EndToEnd (`demand_3`, in Counts), Calls, Short, Cases, Minimum, Page, Reach,
-- Change, Margin, Ends.
--   Refusals  demand 1
--   Tree      demand 2
--   Counts    demand 3, of the definitions that the calls answer by
--   Running   what the call that runs everything needs of them
--   Calls     sameness
--   Short     Q-1: short tags
--   Cases     the cases marked P, and those of Q-2
--   Minimum   Q-2: the minimum handover
--   Page      Q-4: a page of pairs
--   Reach     Q-5: reach exactly
--   Change    Q-6: adding and withdrawing
--   Margin    Q-7: margin between two windows
--   Ends      Q-8: plans in seconds
pub mod Refusals
pub mod Tree
pub mod Counts
pub mod Running
pub mod Calls
pub mod Short
pub mod Cases
pub mod Minimum
pub mod Page
pub mod Reach
pub mod Change
pub mod Margin
pub mod Ends
