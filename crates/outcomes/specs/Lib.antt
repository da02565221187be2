pub mod Outcomes
pub mod Sending
