-- What public contracts speak of.
pub mod Answers
pub mod Asked
pub mod CheckEnded
pub mod CoresEnded
pub mod Inputs
pub mod Lines
pub mod Numbers
pub mod Outputs
pub mod Saved
pub mod Sentences
pub mod Skips
pub mod StreamChecked
pub mod Unsaved
pub mod Verdicts
pub mod WatchEnded
pub mod WatchSaved
-- What the crate's own functions and invariants speak of.
pub mod Endings
pub mod Listings
pub mod Sizes
