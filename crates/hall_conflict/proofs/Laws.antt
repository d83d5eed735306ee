pub mod Walks
pub mod Above
pub mod Records
