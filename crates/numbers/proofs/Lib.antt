pub mod BigEndian
pub mod Buffer
pub mod Sum
pub mod Padding
