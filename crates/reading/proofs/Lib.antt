-- Readings as bytes: the laws that upper crates cite.
pub mod Codec
pub mod Lengths
pub mod Places
pub mod Fitting
pub mod Sizes
pub mod Forms
pub mod ByteLists
pub mod UpTo
pub mod Walks
pub mod Parts
pub mod Wholes
pub mod Admission
pub mod Saying
pub mod Spelling
pub mod Misfits
pub mod Writing
mod Shapes
mod Storing
mod Copying
