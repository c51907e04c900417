pub mod Behind
pub mod Cuts
pub mod Events
pub mod Held
pub mod Turning
