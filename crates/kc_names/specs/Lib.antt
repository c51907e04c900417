-- What public contracts speak of.
pub mod Names
pub mod Reading
-- What the crate's own functions speak of.
pub mod Steps
