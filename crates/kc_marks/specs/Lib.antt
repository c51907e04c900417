-- What public contracts speak of.
pub mod Maps
pub mod SearchMarks
pub mod Sparse
