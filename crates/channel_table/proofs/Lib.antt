pub mod ByValue
pub mod Lists
pub mod Rows
pub mod Events
