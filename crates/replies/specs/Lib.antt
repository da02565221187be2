pub mod Messages
pub mod Claims
