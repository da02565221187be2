pub mod Layout
pub mod Salvage
pub mod Restored
pub mod Places
pub mod Latest
pub mod Claims
