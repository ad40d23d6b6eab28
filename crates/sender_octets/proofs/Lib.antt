pub mod Pairs
pub mod Parts
pub mod Judged
pub mod Back
pub mod Answered
