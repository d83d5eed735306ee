pub mod Holding
pub mod Turns
