pub mod Cltu
pub mod Answers
