-- The theory's definitions.
-- What the calls' contracts and the promises cite, in the order in which they are read.
pub mod Expressions
pub mod Values
pub mod Language
pub mod Relation
pub mod Precedence
pub mod Decision
pub mod Ranking
pub mod Extends
pub mod Bench
pub mod ExtendsCases
-- What only the functions and proofs inside go by.
pub mod Nodes
pub mod Spells
pub mod RankingParts
