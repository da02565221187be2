pub mod Number
pub mod Sum
