-- What public contracts speak of.
pub mod Saving
-- What the crate's own functions speak of.
pub mod Steps
