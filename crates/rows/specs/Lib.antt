-- The definitions of the work area's rows. No call's contract and no promise cites one.
-- What the crates above go by: what the area tells.
pub mod Layout
-- What the functions on rows are given and leave.
pub mod Cuts
pub mod Rows
