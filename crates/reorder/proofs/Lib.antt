-- The theorems on exchanged alternatives, in the order in which they are read.
pub mod Exchanging
pub mod Checking
pub mod Languages
pub mod Values
pub mod Readings
pub mod Lines
pub mod Outcomes
pub mod Reordering
pub mod Standing
pub mod Texts
pub mod Shared
pub mod Tests
pub mod Cases
pub mod Examples
