-- The writer's buffers, step by step.
pub mod Buffers
