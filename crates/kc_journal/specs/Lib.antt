-- What public contracts speak of.
pub mod ListsAhead
pub mod Answers
pub mod Entering
pub mod Holding
pub mod Journals
pub mod Sections
-- What the crate's own functions and invariants speak of.
pub mod Changes
pub mod Restarting
