pub mod Beside
pub mod Padded
pub mod Named
pub mod Looked
pub mod Looks
