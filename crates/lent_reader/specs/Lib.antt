-- What a caller holds of a reader, and what the calls on it answer, as definitions over the reader's model.
pub mod Held
pub mod Private
