pub mod Header
pub mod Status
pub mod Counts
pub mod Fields
pub mod Read
pub mod Inside
pub mod Claims
