-- What public contracts speak of.
pub mod LastRounds
