-- What public contracts speak of.
pub mod Events
pub mod Faults
pub mod State
