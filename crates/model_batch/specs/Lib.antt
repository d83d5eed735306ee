-- A batch: many calls in one. Definitions compute; Statements says what holds of them.
pub mod Items
pub mod Encoder
pub mod Decoder
pub mod Answers
pub mod Reader
pub mod Batch
pub mod Statements
pub mod Board
