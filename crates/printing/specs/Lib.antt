-- Numbers as bytes, and what the functions leave.
pub mod Decimal
pub mod Writes
