pub mod Accepted
pub mod Drawn
pub mod Short
pub mod Spoken
pub mod Turns
pub mod Written
