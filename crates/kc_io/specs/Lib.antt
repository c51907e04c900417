-- What public contracts speak of.
pub mod Calls
pub mod Causes
pub mod FirstPiece
pub mod LineEnds
pub mod Memory
pub mod Offers
pub mod Wrapped
