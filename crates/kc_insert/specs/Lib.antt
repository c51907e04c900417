-- What the crate's own functions and invariants speak of.
pub mod Added
pub mod Marks
pub mod Rising
pub mod Searching
pub mod Sure
pub mod Turns
