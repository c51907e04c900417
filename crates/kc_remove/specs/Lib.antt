-- What the crate's own functions and invariants speak of.
pub mod Cascade
pub mod Falling
pub mod Removed
pub mod Visits
