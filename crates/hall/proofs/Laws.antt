pub mod Tables
pub mod Puts
pub mod Rows
pub mod Halls
pub mod Sound
pub mod Chains
