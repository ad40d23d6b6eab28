pub mod Initial
pub mod Kept
pub mod Suspended
