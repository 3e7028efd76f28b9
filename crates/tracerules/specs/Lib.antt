-- What the program writes for an input, in the order in which it is read.
pub mod Text
pub mod Messages
pub mod Outputs
