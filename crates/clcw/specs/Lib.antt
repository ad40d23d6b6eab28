pub mod Clcw
pub mod Answers
