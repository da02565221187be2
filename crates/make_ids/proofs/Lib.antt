pub mod HexDigits
pub mod Words
pub mod Taken
pub mod Marks
