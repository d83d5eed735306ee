pub mod Regions
pub mod Versions
pub mod Filled
pub mod Loaded
pub mod Turns
