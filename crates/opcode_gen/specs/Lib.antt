pub mod TableText
pub mod LockLine
pub mod CapsuleText
