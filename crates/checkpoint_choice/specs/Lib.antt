pub mod Ranked
pub mod Chained
pub mod LongChain
