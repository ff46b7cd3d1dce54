-- A state survives the way out to the caller and back, so the calls on what a caller holds answer as the reader's own.
pub mod Laws
pub mod Through
