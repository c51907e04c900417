pub mod Prefixes
pub mod Lists
pub mod Among
pub mod Cells
pub mod Moves
