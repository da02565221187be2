pub mod Ruled
pub mod Unanswered
pub mod Handled
