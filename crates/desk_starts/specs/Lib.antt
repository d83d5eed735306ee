pub mod Starts
pub mod Marks
