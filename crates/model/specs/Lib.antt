-- What the store is. Definitions compute; Demands states what holds of them.
pub mod Sizes
pub mod Bytes
pub mod State
pub mod Sweeps
pub mod Sound
pub mod Dump
pub mod Load
pub mod Journal
pub mod Calls
pub mod Runs
pub mod History
pub mod Demands
pub mod Recovery
pub mod Faults
pub mod Whiteboard
