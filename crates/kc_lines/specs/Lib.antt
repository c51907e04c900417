-- What public contracts speak of.
pub mod Fields
pub mod Hex
pub mod Json
pub mod Lines
pub mod Pages
