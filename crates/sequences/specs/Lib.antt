-- The shared vocabulary, in reading order.
--   Search    the least and the greatest number that pass a test, how many do, their list, and whether all do
--   Lists     the index of a number in a list, and the sum of a function over a list
--   Table     a function's values as a list, and a list with its front written anew
pub mod Search
pub mod Lists
pub mod Table
