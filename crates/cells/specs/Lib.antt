pub mod Cells
pub mod Keys
pub mod Rows
pub mod Values
