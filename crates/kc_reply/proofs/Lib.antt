pub mod Newlines
pub mod Behind
pub mod Texts
