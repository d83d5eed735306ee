-- What code finds in a batch, on paper.
pub mod Papers
pub mod Clauses
