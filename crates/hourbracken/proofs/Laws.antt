pub mod Commit
pub mod Fixed
