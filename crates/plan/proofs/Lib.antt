-- Laws, in the order in which they rest on one another.
--   Reading     a window read from the whole file
--   Validated   what each answer of `validate` shows
--   Acceptance  what is known of an accepted plan's windows, and that no more is needed
--   Written     the file of a list of windows
--   Even        even plans: no end falls, and the pass that asks
--   Calls       calls that validate a file and then ask more
--   Counted     an accepted plan with so many windows
--   Plan12      the paper's plan, by computation
pub mod Reading
pub mod Validated
pub mod Acceptance
pub mod Written
pub mod Even
pub mod Calls
pub mod Counted
pub mod Plan12
