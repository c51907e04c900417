-- What public contracts speak of.
pub mod Collected
pub mod Runs
pub mod Shared
pub mod Standing
pub mod Writers
