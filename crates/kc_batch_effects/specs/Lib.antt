-- What public contracts speak of.
pub mod Batches
pub mod Entered
pub mod Outcomes
pub mod Updates
