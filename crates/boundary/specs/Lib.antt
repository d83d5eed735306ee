pub mod Boundary
pub mod Found
