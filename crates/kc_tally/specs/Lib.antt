-- What public contracts speak of.
pub mod Keys
pub mod Layers
pub mod Lists
pub mod Tallies
-- What the crate's own functions speak of.
pub mod Taking
