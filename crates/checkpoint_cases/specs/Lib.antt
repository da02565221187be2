pub mod Twins
pub mod Outside
pub mod Requests
pub mod Copy
pub mod Refreshes
