-- What the checked calls answer, and a table's rule.
pub mod CheckedLaws
pub mod Table
