-- The definitions on alternatives that are seen to share no line.
-- What the call's contract and the promises cite.
pub mod Calls
-- Examples.
pub mod Cases
-- What only the functions inside are given and leave.
pub mod Shared
