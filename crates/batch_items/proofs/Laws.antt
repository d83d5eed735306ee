pub mod Fields
pub mod Operands
pub mod Items
pub mod Results
pub mod Batch
pub mod Turns
