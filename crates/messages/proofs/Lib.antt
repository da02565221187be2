pub mod Bounds
pub mod Inside
pub mod Cases
pub mod Refused
pub mod Padding
