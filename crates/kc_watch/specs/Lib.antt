-- What public contracts speak of.
pub mod Accounts
pub mod States
pub mod Text
pub mod Watching
-- What the crate's own functions speak of.
pub mod Effects
pub mod Endings
pub mod Layered
pub mod Room
