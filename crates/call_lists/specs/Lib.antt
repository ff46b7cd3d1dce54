-- Scripts, and what is told of them.
pub mod Lists
