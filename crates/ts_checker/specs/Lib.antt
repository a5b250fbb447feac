pub mod Refusal
pub mod Names
pub mod Room
pub mod Keywords
pub mod Checks
pub mod Accepted
pub mod Answer
pub mod Seen
