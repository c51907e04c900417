-- What public contracts speak of.
pub mod EndedFor
pub mod ErrLines
pub mod Faults
pub mod Given
pub mod Leaving
pub mod Outcome
pub mod Settings
pub mod Statuses
-- What the crate's own functions and invariants speak of.
pub mod Inputs
pub mod Stops
