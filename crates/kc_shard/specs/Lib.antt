-- What public contracts speak of.
pub mod HIndex
pub mod Shards
