-- The theorem, and what it needs of the plain reader, of refused bytes and of readers that stand for each other.
pub mod Plainly
pub mod Keeps
pub mod Image
pub mod Meets
