-- What public contracts speak of.
pub mod Listing
pub mod Pairs
-- What the crate's own functions and invariants speak of.
pub mod Bins
pub mod Parts
pub mod Ranges
pub mod Holders
