pub mod Coming
pub mod Feeding
pub mod Tables
