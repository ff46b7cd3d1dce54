-- The line that tells an answer.
pub mod Line
pub mod Private
