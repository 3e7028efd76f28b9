-- The definitions of readings as bytes.
-- What the calls' contracts and the promises cite, in the order in which they are read.
pub mod Codec
pub mod Fitting
pub mod Calls
-- What only the functions inside, here and in the crates above, are given and leave.
pub mod ValueKinds
pub mod Walks
pub mod Writing
