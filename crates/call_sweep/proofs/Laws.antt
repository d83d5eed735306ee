pub mod Readers
pub mod Sweeps
