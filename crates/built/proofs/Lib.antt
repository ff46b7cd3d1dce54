-- The proof built from a polynomial is accepted.
pub mod Layers
pub mod BuiltLayout
pub mod Holds
pub mod Built
