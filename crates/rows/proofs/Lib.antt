-- The laws of rows that the crates above cite.
pub mod Places
pub mod Cuts
pub mod Recurrences
pub mod Bytes
pub mod Kept
pub mod Growing
pub mod Joining
pub mod Marking
pub mod Tails
pub mod Reaching
pub mod Extending
