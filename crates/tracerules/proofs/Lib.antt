-- The text of an input, and what is written for it.
pub mod Text
pub mod Messages
pub mod Outputs
