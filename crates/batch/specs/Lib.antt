pub mod Batches
pub mod Making
pub mod Statements
