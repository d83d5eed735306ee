pub mod Numbers
pub mod Parts
pub mod Spans
pub mod Order
pub mod Rows
pub mod Each
pub mod Tests
pub mod Which
