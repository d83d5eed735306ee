pub mod Numbers
pub mod Drive
pub mod Machine
pub mod Parser
