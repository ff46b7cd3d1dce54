-- Laws of the fold.
pub mod PolyLaws
pub mod FoldLaws
pub mod FoldCheck
