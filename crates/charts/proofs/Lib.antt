pub mod Codes
pub mod Told
pub mod Rows
pub mod Filling
pub mod Walks
