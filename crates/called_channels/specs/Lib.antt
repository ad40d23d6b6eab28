pub mod Ends
pub mod Ours
pub mod Called
pub mod Fresh
pub mod Demand
pub mod Isolation
