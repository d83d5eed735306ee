pub mod Readers
pub mod Older
