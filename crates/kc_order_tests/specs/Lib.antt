-- What the contracts of the tests speak of.
pub mod Lone
