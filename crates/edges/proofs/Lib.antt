-- The laws on the edges of lines, which upper crates cite.
pub mod Edges
pub mod Held
pub mod Bits
mod Records
mod Marks
