-- What public contracts speak of.
pub mod Changed
-- What the crate's own functions speak of.
pub mod Telling
