pub mod Counts
pub mod Crossing
pub mod Steps
pub mod Totals
