pub mod BigEndian
pub mod Buffer
pub mod Checksum
pub mod Search
pub mod Claims
