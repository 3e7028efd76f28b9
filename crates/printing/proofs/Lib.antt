-- The laws of texts written one after another, and of decimal digits.
pub mod Writes
pub mod Digits
