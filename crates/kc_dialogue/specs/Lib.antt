-- What public contracts speak of.
pub mod Dialogues
pub mod Endings
pub mod Openings
pub mod Replies
pub mod Turns
