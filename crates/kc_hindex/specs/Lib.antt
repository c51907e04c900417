-- What public contracts speak of.
pub mod Rounds
pub mod Sharding
-- What the crate's own functions and invariants speak of.
pub mod Crossing
pub mod Ordering
pub mod Pieces
