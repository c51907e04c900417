pub mod SmallTables
pub mod StoredParts
