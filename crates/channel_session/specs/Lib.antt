pub mod Ends
pub mod Session
pub mod Demand
