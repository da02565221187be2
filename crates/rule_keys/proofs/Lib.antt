pub mod Links
pub mod Products
pub mod Places
pub mod Passes
pub mod SameKey
