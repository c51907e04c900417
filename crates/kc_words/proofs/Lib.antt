pub mod Packing
pub mod Notes
pub mod Ordering
