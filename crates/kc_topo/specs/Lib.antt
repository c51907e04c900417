-- What public contracts speak of.
pub mod Arcs
pub mod Dags
-- What the crate's own functions and invariants speak of.
pub mod Searching
