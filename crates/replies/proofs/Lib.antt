pub mod Lengths
pub mod Filled
pub mod Written
pub mod WorkedExample
pub mod WorkedMade
pub mod Sums
