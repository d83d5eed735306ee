pub mod Held
pub mod Runs
pub mod Ends
pub mod Cuts
