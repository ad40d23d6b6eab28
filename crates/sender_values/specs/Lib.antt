pub mod Limits
pub mod Parts
pub mod Actions
pub mod Start
