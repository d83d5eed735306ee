pub mod Cells
pub mod Halving
pub mod Rows
pub mod Values
