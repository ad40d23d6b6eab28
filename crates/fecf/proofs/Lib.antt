pub mod Remainder
pub mod Table
pub mod Rule
pub mod Syndrome
pub mod Detection
pub mod Examples
