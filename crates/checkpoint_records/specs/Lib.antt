pub mod Put
pub mod Record
