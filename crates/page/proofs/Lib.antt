-- The page's laws, from two lines to the call.
pub mod Likeness
pub mod Runs
pub mod Division
pub mod Classes
pub mod Meaning
pub mod Reordered
pub mod Cases
-- What only the functions' proofs go by.
mod Exits
mod Pointwise
mod Parity
mod Comparing
mod Taking
mod Going
mod Answering
