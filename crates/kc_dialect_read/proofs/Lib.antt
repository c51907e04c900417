pub mod Feeds
pub mod Pieces
pub mod Stops
