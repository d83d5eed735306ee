pub mod Runs
pub mod Demands
pub mod Fixed
pub mod Images
pub mod Recovery
