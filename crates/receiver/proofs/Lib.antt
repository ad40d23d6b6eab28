pub mod Kept
pub mod Judged
pub mod Restored
pub mod Facts
pub mod Examples
pub mod Refuted
