-- What contracts speak of.
pub mod BlockLists
pub mod Placing
