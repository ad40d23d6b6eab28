pub mod Events
pub mod Rows
