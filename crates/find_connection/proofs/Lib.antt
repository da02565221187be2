pub mod Match
pub mod Rows
pub mod Looked
pub mod Looks
