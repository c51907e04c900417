pub mod Backs
pub mod Counting
pub mod Members
pub mod Results
pub mod Shared
