-- What the walks share.
pub mod Stored
pub mod Walks
