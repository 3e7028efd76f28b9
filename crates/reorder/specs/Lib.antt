-- The definitions on exchanged alternatives.
-- What the promises cite.
pub mod Exchanges
pub mod Readings
pub mod Texts
-- A test on two alternatives, and examples.
pub mod Tests
pub mod Cases
