pub mod Applying
pub mod LastUpdates
pub mod InAnyOrder
pub mod OneByOne
pub mod Rows
pub mod Told
