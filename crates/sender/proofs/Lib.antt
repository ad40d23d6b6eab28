pub mod Steps
pub mod Starts
pub mod Judged
pub mod Timer
