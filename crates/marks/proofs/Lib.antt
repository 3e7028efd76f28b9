-- The laws of marks that the crates above cite.
pub mod Laws
