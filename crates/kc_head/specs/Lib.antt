-- What public contracts speak of.
pub mod Foreign
pub mod Heads
pub mod Places
pub mod Shown
pub mod Sizes
