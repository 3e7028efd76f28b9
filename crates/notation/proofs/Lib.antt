-- The notation's laws.
pub mod Words
pub mod Complete
pub mod Sound
pub mod Stopping
pub mod Records
pub mod Standing
pub mod Ranges
pub mod Passing
mod Segments
mod Laying
mod Showing
mod Taking
mod Walking
mod Compiling
pub mod Calls
pub mod Hold
