pub mod Output
pub mod Loop
pub mod Records
pub mod Turns
pub mod Whole
