pub mod Trim
pub mod Held
