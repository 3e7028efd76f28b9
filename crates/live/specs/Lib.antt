-- The live line's definitions.
-- What the calls' contracts and the promises cite, in the order in which they are read.
pub mod Lines
pub mod Calls
pub mod Runs
pub mod Cases
-- What only the functions and proofs inside go by.
pub mod Steps
