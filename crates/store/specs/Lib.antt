pub mod Places
pub mod Slid
