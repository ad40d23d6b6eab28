pub mod Limits
pub mod Table
pub mod Channels
pub mod Isolation
pub mod Rows
