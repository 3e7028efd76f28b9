-- Sets of numbers as bits.
pub mod Marks
