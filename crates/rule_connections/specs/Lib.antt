pub mod Columns
pub mod Own
pub mod Rows
