pub mod Paging
pub mod Turning
