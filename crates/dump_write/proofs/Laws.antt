pub mod Writes
pub mod Fields
