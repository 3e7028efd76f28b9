-- Read's laws, from parts of a line to the ways out of the call.
pub mod Cuts
pub mod Readings
pub mod Storing
pub mod Positions
pub mod Searching
pub mod Walking
pub mod Iterating
pub mod Answering
pub mod Rivals
pub mod Outcomes
pub mod Written
