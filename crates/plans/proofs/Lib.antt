-- The laws of plans, which only the functions inside go by.
pub mod Plain
pub mod Finding
