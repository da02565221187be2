pub mod Computed
pub mod Copied
