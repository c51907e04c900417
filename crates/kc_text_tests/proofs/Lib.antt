pub mod PartsTogether
