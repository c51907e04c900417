-- What public contracts speak of.
pub mod Dealt
pub mod Shares
