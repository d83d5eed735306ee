-- The decoder, then the answers, then what holds of batches.
pub mod Decoded
pub mod Encoded
pub mod Stopped
pub mod Items
pub mod Singles
pub mod Malformed
pub mod Answered
pub mod Lengths
pub mod Grows
pub mod Told
pub mod Answers
pub mod Seen
