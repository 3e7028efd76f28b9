-- The laws of what the program prints.
pub mod Reports
pub mod Taking
pub mod Whole
pub mod Cases
pub mod Reordered
