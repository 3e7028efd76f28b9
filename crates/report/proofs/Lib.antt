-- What the program prints: laws of tokens and reports, and the example.
pub mod TokenLines
pub mod Cases
mod Reports
pub mod Room
pub mod Alike
pub mod Long
