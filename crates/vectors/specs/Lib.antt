-- The Monte test of SHA-256, and what is written of the file of vectors.
pub mod Monte
pub mod Lines
