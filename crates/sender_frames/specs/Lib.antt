pub mod Limits
pub mod Frames
