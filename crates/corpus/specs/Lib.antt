-- What is done with a job of the file.
pub mod Jobs
