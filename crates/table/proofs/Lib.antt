-- The rule table's laws, which upper crates cite.
pub mod Laws
pub mod Passing
pub mod Children
pub mod Nodes
pub mod UpTo
pub mod Checking
pub mod Exits
pub mod Refusals
mod Letters
mod Scan
