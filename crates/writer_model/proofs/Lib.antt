-- The writer's buffers come to hold the built proof.
pub mod Represents
pub mod Layers
pub mod Opened
pub mod File
