pub mod Sums
pub mod Lengths
pub mod Written
pub mod MadeIds
pub mod WorkedObjects
