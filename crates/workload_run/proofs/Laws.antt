pub mod Run
pub mod Works
pub mod Calls
