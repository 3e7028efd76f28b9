-- The rule table's definitions.
-- What the calls' contracts and the promises cite, in the order in which they are read.
pub mod Records
pub mod Kinds
pub mod Faults
pub mod Answers
pub mod Checked
pub mod Buffers
pub mod Expression
-- What only the functions inside are given and leave.
pub mod Letters
pub mod Steps
