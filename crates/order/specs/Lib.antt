-- The definitions of order.
-- What the call's contract and the promises cite, in the order in which they are read.
pub mod Breaks
pub mod Verdicts
pub mod Cases
-- What only the functions inside are given and leave.
pub mod Steps
