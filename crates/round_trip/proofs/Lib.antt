-- The theorem.
pub mod Returns
