pub mod Ledger
pub mod Connections
pub mod Promises
pub mod Claims
