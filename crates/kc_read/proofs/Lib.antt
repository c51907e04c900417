pub mod Outcomes
pub mod Pieces
pub mod StartGraphs
pub mod Whole
