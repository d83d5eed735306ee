pub mod Drive
pub mod Machine
