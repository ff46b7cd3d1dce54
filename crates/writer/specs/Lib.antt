-- The writer of proofs.
pub mod Writer
