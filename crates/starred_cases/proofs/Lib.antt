pub mod Unchecked
pub mod Computed
