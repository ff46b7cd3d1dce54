-- The proof built from a polynomial.
pub mod Built
