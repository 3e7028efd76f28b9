-- The laws of order.
-- What the verdicts mean, which the promises cite; and the examples.
pub mod Meaning
pub mod Hold
-- What only the functions inside need.
mod Breaking
mod Walking
