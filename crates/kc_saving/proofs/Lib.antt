pub mod Keeping
pub mod Stated
pub mod Turned
