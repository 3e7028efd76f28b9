-- The definitions of the search for lines that can still be extended: what its functions are given and leave.
pub mod Reaching
