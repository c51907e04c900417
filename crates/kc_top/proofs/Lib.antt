pub mod Asking
pub mod Generating
pub mod Promised
pub mod Sound
pub mod Stopping
