-- What public contracts speak of.
pub mod Columns
pub mod Dialects
pub mod EdgeFaults
pub mod FirstPairs
pub mod Gaps
pub mod Names
pub mod PlainRuns
pub mod Rewritten
pub mod Sayings
pub mod Signatures
pub mod Skipped
pub mod Steps
