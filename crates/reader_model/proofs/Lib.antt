-- The model stands for the judgement, and so meets the claim.
pub mod Choice
pub mod Defaults
pub mod Pieces
pub mod Filled
pub mod Rest
pub mod Stages
pub mod Queries
pub mod Whole
pub mod Theorem
pub mod Forged
