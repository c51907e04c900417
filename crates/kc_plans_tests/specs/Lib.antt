-- What the crate's own functions and invariants speak of.
pub mod Whim
pub mod WhimCode
