pub mod BoundedCounts
pub mod HIndex
pub mod Shards
