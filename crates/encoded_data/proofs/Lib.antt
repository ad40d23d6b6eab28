pub mod Encoded
pub mod Scan
pub mod Single
