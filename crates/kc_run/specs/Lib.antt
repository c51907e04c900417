-- What public contracts speak of.
pub mod Courses
pub mod Entered
pub mod Receipts
pub mod Runs
pub mod Tables
-- What the crate's own functions and invariants speak of.
pub mod Outcomes
