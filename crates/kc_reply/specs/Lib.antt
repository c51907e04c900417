-- What public contracts speak of.
pub mod Facts
pub mod Texts
-- What the texts are made of, in one format and in the other.
pub mod Json
pub mod Words
