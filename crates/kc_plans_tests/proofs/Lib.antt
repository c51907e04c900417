pub mod Drawn
pub mod Looking
