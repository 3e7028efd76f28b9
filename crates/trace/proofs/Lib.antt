-- The calls for C, and the demands.
pub mod Numbers
pub mod Numbered
pub mod Bounds
pub mod Answers
pub mod UpTo
pub mod Ordering
pub mod Living
pub mod Paging
pub mod Promises
