-- What public contracts speak of.
pub mod Requests
pub mod Wishes
