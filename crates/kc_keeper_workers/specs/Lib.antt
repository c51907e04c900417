-- What public contracts speak of.
pub mod Paying
-- What the crate's own functions speak of.
pub mod Working
