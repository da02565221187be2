pub mod Grown
pub mod Parts
pub mod Rows
pub mod Checkpoint
