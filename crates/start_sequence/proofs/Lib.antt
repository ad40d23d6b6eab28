pub mod Starts
pub mod Search
