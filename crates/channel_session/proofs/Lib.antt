pub mod Pool
pub mod Known
pub mod Link
pub mod Theorem
pub mod Trace
pub mod Example
pub mod Refuted
