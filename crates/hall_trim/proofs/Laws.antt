pub mod Trim
pub mod Olders
pub mod Rising
pub mod Walk
