-- What public contracts speak of.
pub mod Records
pub mod Reads
pub mod ReadsCode
-- What the crate's own functions and invariants speak of.
pub mod Loose
