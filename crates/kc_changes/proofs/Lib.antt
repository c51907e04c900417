pub mod Ascending
pub mod InOrder
