pub mod Ends
pub mod Value
pub mod Called
pub mod Fresh
pub mod Theorem
pub mod Isolation
