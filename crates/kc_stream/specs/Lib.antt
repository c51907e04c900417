-- What public contracts speak of.
pub mod Asking
pub mod Ended
pub mod Gathering
pub mod Hearing
pub mod Ids
pub mod Numbers
