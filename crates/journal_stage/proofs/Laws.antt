pub mod Staging
pub mod Midway
