-- What the program prints, in the order in which it is read.
pub mod Output
pub mod Blocks
