pub mod Placed
pub mod Stands
pub mod Records
