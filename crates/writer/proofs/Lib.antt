-- The writer's tests, and what its sections leave.
pub mod WriterLaws
pub mod SectionLaws
pub mod WrittenLaws
