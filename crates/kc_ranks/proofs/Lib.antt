pub mod LastRounds
