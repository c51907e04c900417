-- What public contracts speak of.
pub mod Answers
pub mod Faults
pub mod Lists
pub mod Marks
pub mod Memory
pub mod Plain
pub mod PlainCode
pub mod Search
pub mod Sure
pub mod Views
