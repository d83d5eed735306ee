pub mod Within
pub mod Bits
pub mod Layout
pub mod Shaped
pub mod Starts
pub mod Desks
pub mod Gather
pub mod Sound
