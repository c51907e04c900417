pub mod Growing
pub mod Keeping
pub mod Giving
pub mod Loosening
pub mod Crossing
