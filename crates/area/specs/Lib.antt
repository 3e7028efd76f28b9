-- The work area's definitions. No call's contract and no promise cites one: the formula for its size is matcher's `work_size`, and where its
-- content may change it is free.
-- What the functions inside are given and leave that the crate above goes by: what the area tells.
pub mod Area
-- What only the functions inside that fill the area are given and leave.
pub mod Filling
