pub mod Known
pub mod Levels
pub mod Needs
