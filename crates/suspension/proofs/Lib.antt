pub mod Matter
pub mod Told
pub mod Begins
pub mod Initial
pub mod Law
pub mod Example
pub mod Refuted
