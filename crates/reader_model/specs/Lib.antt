-- The model of the reader, and what is claimed of it.
pub mod State
pub mod Items
pub mod Model
pub mod Claim
