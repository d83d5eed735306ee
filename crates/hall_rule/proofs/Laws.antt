pub mod Rule
pub mod Successor
