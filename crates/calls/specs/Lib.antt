-- Lists of calls, the plain reader, and what the third demand says of a reader.
pub mod Calls
pub mod Plain
pub mod Demand3
pub mod Judged
