-- What public contracts speak of.
pub mod Batches
pub mod Desks
pub mod Receipts
pub mod Runs
pub mod Seats
