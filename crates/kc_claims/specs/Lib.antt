-- What public contracts speak of.
pub mod Certificates
pub mod Claims
pub mod LineFaults
pub mod Pieces
pub mod Streams
pub mod Stretches
pub mod Tables
-- What the crate's own functions speak of.
pub mod Checking
pub mod Feeding
pub mod Gathering
pub mod IdBits
pub mod Insisting
pub mod Judging
pub mod Places
pub mod Placing
pub mod Stretching
pub mod Sweeping
pub mod Taking
