pub mod Over
pub mod Fields
