pub mod Taken
pub mod Changed
