-- The theory's proofs, in the order in which they are read.
pub mod Lists
pub mod Flats
pub mod Paths
pub mod Inside
pub mod Ahead
pub mod Ranks
pub mod Sizes
pub mod Languages
pub mod Spells
pub mod Bytes
pub mod Extends
pub mod Parse
pub mod Found
pub mod Count
pub mod Cases
pub mod ExtendsCases
