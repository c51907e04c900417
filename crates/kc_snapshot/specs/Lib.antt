-- What public contracts speak of.
pub mod Histories
pub mod Rules
-- What the crate's own functions and invariants speak of.
pub mod Changes
