-- What the contracts of `felt` cite: the answers of the checked calls.
pub mod Checked
pub mod Private
