-- Tokens: the laws that upper crates cite.
pub mod Counts
pub mod Text
pub mod Places
pub mod Calls
pub mod UpTo
-- What only these and the functions' proofs go by.
mod Filters
mod Writing
mod Records
mod Walks
