-- What the replier of the tests says.
pub mod Echoes
