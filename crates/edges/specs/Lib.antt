-- The definitions on the edges of lines.
pub mod Edges
-- What the functions are given and leave.
pub mod Bits
pub mod Held
