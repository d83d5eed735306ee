pub mod Sought
pub mod Room
