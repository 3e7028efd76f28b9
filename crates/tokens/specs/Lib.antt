-- The definitions of tokens.
-- What the call's contract and the promises cite, in the order in which they are read.
pub mod Tokens
pub mod Listed
-- What only the functions inside are given and leave.
pub mod Walks
