-- The notation's definitions.
-- What the call's contract and the promises cite, in the order in which they are read: a reader believes Trees, Grammar, Tables and Calls;
-- that the decision of Decision is that of the grammar is proved.
pub mod Trees
pub mod Grammar
pub mod Tables
pub mod Decision
pub mod Calls
pub mod Accepted
-- Texts, their trees and their tables.
pub mod Cases
-- What only the functions inside are given and leave.
pub mod Walks
