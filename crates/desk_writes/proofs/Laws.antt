pub mod Writes
pub mod Opened
pub mod Ordered
