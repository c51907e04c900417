pub mod Batching
pub mod Entering
pub mod Lists
pub mod Receiving
pub mod Tabling
pub mod Telling
