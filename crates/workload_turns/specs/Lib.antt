pub mod Turns
pub mod Holding
