-- Laws that the proofs share.
pub mod MonteLaws
pub mod Checkpoints
