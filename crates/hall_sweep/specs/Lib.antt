pub mod Staying
pub mod Held
