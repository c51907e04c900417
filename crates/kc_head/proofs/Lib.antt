pub mod Fronts
pub mod Sized
