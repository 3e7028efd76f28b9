-- Read's definitions.
-- What the calls' contracts and the promises cite, in the order in which they are read.
pub mod Calls
pub mod Demands
-- What only the functions and proofs inside go by.
pub mod Walks
pub mod Parts
