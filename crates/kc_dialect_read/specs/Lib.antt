-- What public contracts speak of.
pub mod Meanings
pub mod Reading
