pub mod Stored
pub mod Made
pub mod Found
pub mod Copied
pub mod NameBytes
pub mod Padded
pub mod Zeroed
pub mod Alike
