-- The table of refusals, row by row.
pub mod Rules
