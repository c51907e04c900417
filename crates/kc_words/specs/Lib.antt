-- What public contracts speak of.
pub mod ItemWord
pub mod GroupWord
pub mod VertexWord
pub mod NoteWord
pub mod Order
