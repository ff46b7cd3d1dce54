-- Laws that the proofs share.
pub mod Build
pub mod Bitwise
pub mod Rotation
pub mod RoundLaws
pub mod Padding
pub mod HashLaws
pub mod ConstantLaws
pub mod Vectors
