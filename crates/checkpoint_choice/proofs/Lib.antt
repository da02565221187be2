pub mod Walk
pub mod StandIn
pub mod Named
pub mod Best
pub mod Mixed
pub mod LongWalk
pub mod SamePointwise
