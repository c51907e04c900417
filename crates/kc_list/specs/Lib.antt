-- What public contracts speak of.
pub mod Places
pub mod Writes
pub mod Sheets
pub mod Tally
pub mod Plain
-- What the crate's own functions and invariants speak of.
pub mod Views
pub mod Opening
pub mod Soundness
pub mod Rewriting
pub mod Scheduling
pub mod Retops
