pub mod Names
pub mod Conflicts
