-- What public contracts speak of.
pub mod Batches
pub mod Feeding
pub mod Forms
pub mod Inputs
pub mod Kinds
pub mod LastUpdates
pub mod Lines
pub mod Meaning
pub mod NamedOnce
pub mod Overruling
pub mod Parts
-- What the crate's own functions and invariants speak of.
pub mod Buckets
pub mod Deciding
pub mod Finding
pub mod Looks
pub mod Numbering
pub mod Plain
pub mod Readers
pub mod Readings
pub mod TellingLines
