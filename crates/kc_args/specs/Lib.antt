-- What public contracts speak of.
pub mod Words
