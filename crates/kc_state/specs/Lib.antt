-- What public contracts speak of.
pub mod OneState
pub mod Reading
pub mod Sentences
pub mod Starts
pub mod Texts
-- What the crate's own functions and invariants speak of.
pub mod SummedPages
