pub mod Answers
pub mod Start
pub mod Events
