-- Laws of values in a layer and of the fold in place.
pub mod PolynomialLaws
