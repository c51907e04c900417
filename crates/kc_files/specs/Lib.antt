-- What public contracts speak of.
pub mod Faults
pub mod Folders
