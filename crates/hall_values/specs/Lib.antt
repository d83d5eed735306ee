pub mod Places
pub mod Stands
pub mod Sees
