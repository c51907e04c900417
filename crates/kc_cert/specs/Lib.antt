-- What public contracts speak of.
pub mod Conditions
pub mod Local
pub mod Ranks
pub mod Stands
-- What the crate's own functions and invariants speak of.
pub mod Arrangements
pub mod Looks
pub mod Shifting
