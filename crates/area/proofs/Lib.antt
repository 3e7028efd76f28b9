-- The work area's laws, which upper crates cite.
pub mod Parts
pub mod Seeds
pub mod Known
pub mod Records
pub mod Blocks
pub mod Filling
