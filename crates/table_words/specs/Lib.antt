pub mod Heads
pub mod Fours
pub mod Names
