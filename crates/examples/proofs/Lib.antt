-- The claim over all worked examples.
pub mod Hold
