-- Answers, the table of their numbers, and the refusals among them.
pub mod Refusals
pub mod Table
