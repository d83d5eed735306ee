pub mod Details
pub mod Done
pub mod After
