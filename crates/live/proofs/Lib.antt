-- The live line's laws.
-- What a live line holds and what its calls say, and the lists of calls, which the promises cite.
pub mod Saying
pub mod Holding
pub mod OneCall
pub mod Runs
pub mod Hold
-- What only the functions inside need.
mod Answering
mod Finding
