pub mod Cuts
pub mod Holding
pub mod Naming
pub mod Numbering
pub mod Reading
