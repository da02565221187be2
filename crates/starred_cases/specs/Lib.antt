pub mod Run
pub mod TwoCustomers
pub mod TwoHundred
pub mod Replies
pub mod PaddedNames
pub mod Nameless
pub mod Lapses
pub mod Late
