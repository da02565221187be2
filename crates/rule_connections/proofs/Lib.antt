pub mod Rows
pub mod Own
pub mod Parts
pub mod Customers
