-- A polynomial in lent numbers.
pub mod Polynomial
