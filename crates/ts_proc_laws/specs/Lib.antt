pub mod Frames
pub mod FrameLaw
