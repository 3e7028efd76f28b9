-- The laws of the search, from the rests of a line to the whole.
pub mod Marking
pub mod Rests
pub mod Visits
pub mod Searching
