pub mod Staged
pub mod Published
pub mod Going
