-- Laws of tests, bytes and order, which know nothing of stores.
pub mod Cases
pub mod Bytes
pub mod Order
