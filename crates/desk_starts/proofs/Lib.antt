pub mod Laws
pub mod Marking
