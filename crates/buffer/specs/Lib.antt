-- What is put into a lent buffer.
pub mod Buffer
