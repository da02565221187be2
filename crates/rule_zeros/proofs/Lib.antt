pub mod Free
pub mod Past
