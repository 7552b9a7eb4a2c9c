-- Laws, in the order in which they rest on one another.
pub mod Tests
pub mod Search
pub mod Every
pub mod Passing
pub mod Lists
pub mod FlatMap
pub mod Pairwise
pub mod Table
pub mod Appending
pub mod Records
