-- The page's definitions.
-- What the call's contract and the promises cite, in the order in which they are read.
pub mod Entries
pub mod Runs
pub mod Outcomes
pub mod Pages
pub mod Sorted
pub mod Cases
-- What only the functions inside are given and leave.
pub mod Steps
