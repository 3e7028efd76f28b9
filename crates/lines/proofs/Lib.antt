-- The laws of lines.
pub mod Splitting
pub mod Ends
pub mod Nexts
pub mod Joining
pub mod Counting
pub mod Keeping
