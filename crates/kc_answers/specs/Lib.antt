-- What public contracts speak of.
pub mod Answers
-- What the crate's own functions speak of.
pub mod Counted
