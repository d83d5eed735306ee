pub mod Rows
pub mod Whole
