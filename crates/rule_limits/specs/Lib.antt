pub mod Apart
pub mod Tally
