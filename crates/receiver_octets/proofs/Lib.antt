pub mod Judged
pub mod Restored
