pub mod Records
pub mod Writes
