-- What a reader shows, and that it then meets the third demand.
pub mod Decide
pub mod Follows
pub mod Prefix
pub mod Judged
pub mod Within
pub mod Denotes
pub mod Folds
