pub mod Word
pub mod Outcomes
pub mod Back
pub mod Examples
pub mod Refuted
