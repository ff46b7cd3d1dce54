-- The judgement refuses exactly by the table.
pub mod Faults
pub mod Steps
pub mod Parts
pub mod Offsets
pub mod Walked
pub mod Sections
pub mod Rows
pub mod Exactly
