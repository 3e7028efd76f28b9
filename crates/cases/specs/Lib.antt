-- What the one proof over the cases cites, in the order in which it is read. No function inside has a definition of its own.
pub mod Tables
pub mod Cases
