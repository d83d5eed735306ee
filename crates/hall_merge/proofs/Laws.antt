pub mod Opened
pub mod Adds
pub mod Places
pub mod Steps
pub mod Entering
pub mod Raising
pub mod Renewing
pub mod Whole
