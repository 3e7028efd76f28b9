-- The laws on alternatives that are seen to share no line.
pub mod Yes
pub mod Cases
mod Sharing
mod Outcomes
