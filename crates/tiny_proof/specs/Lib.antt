-- A tiny proof.
pub mod Tiny
