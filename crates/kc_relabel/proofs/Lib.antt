pub mod Rising
pub mod Once
pub mod Differing
pub mod Stepping
