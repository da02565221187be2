pub mod Objects
pub mod Header
pub mod Buffer
pub mod Claims
