-- A proof file: its layout, its judgement, and what an accepted one is.
pub mod Process
pub mod Size
pub mod Encoding
pub mod Judge
pub mod Accepted
