pub mod Spans
pub mod Rows
pub mod Tests
pub mod Which
