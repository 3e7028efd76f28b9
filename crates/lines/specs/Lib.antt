-- What the program's contracts cite, in the order in which it is read.
pub mod Lines
-- What only the functions inside are said to do.
pub mod Ends
