-- Laws of the table.
pub mod RefusalLaws
