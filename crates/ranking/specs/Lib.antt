-- What the calls' contracts and the promises cite, in the order in which they are read.
pub mod Answers
pub mod OneLine
-- What only the functions and proofs inside go by.
pub mod Records
