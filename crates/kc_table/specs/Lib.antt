-- What public contracts speak of.
pub mod Edges
pub mod Legal
pub mod Log
pub mod Rule
pub mod Sections
pub mod TableState
-- What the crate's own functions and invariants speak of.
pub mod Samples
